-- This file need not be believed: proofs/SharedLaws.antt says that it gives the hour numbers of Hours. What a day's numbers share is
-- computed once.
use Rattle.std.specs.Prelude.{Bool, true, false, Float}
use Rattle.calendar.specs.Answers.{yesterday_of, tomorrow_of}
use Rattle.calendar.specs.declared.dates.Date.{Date}
use Rattle.unit.specs.declared.Angle.{Angle}
use Rattle.unit.specs.declared.Coordinates.{Coordinates}
use Rattle.ops.specs.declared.transit.Course.{Course}
use Rattle.ops.specs.Coordinates.{position_of}
use Rattle.ops.specs.Shared.{place_of, sidereal_time_of, observer_of, course_of, course_transit_number_of, arc_to_sine_of, half_arc_of, hour_number_of}
use Rattle.solar.specs.declared.hours.HourNumbers.{HourNumbers}
use Rattle.solar.specs.Hours.{solar_altitude, shadow_angle_of}

-- the sun's course over a place on one date alone
abbrev pub date_course_of : Date → Coordinates → Course
date_course_of d place =
    course_of (observer_of place) (sidereal_time_of (position_of d)) (place_of (position_of (yesterday_of d))) (place_of (position_of d))
    (place_of (position_of (tomorrow_of d)))

-- the hour number of an angle, with its sine given and without
unfoldable pub course_sine_number_of : Course → Float → Angle → Bool → Float
course_sine_number_of c sine angle after = hour_number_of c angle (arc_to_sine_of c sine) after

unfoldable pub course_angle_number_of : Course → Angle → Bool → Float
course_angle_number_of c angle after = hour_number_of c angle (half_arc_of c angle) after

unfoldable pub course_numbers_of : Course → HourNumbers
course_numbers_of c =
    record {
      transit = course_transit_number_of c;
      sunrise = course_angle_number_of c solar_altitude false;
      sunset = course_angle_number_of c solar_altitude true;
    }

unfoldable pub course_afternoon_number_of : Course → Float → Float → Float
course_afternoon_number_of c latitude shadow = course_angle_number_of c (shadow_angle_of latitude c.declination.value shadow) true
