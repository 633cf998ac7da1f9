-- This file need not be believed: the hours of Fajr, Asr and Isha as the code works them. An hour that no time needs is left out. Fajr's
-- and Isha's start from the sines of their angles. proofs/SharedLaws.antt proves that the times are those of Numbers.
use Rattle.std.specs.Prelude.{true, false, cond, pos, int_lt, Float, None, Option, ℤ}
use Rattle.fdlibm_trig.specs.Trig.{sin_of}
use Rattle.models.specs.declared.parameters.Parameters.{Parameters}
use Rattle.models.specs.declared.setting.Setting.{Setting}
use Rattle.ops.specs.declared.transit.Course.{Course}
use Rattle.solar.specs.Shared.{course_sine_number_of, course_afternoon_number_of}
use Rattle.solar.specs.Times.{solar_hour_of}
use Rattle.unit.specs.Unit.{radians_of}
use Rattle.schedule.specs.declared.angles.TwilightSines.{TwilightSines}
use Rattle.schedule.specs.declared.hours.RowHours.{RowHours}
use Rattle.schedule.specs.Numbers.{fajr_angle_of, isha_angle_of, shadow_of}
use Rattle.schedule.specs.Twilight.{by_seventh_of}

-- none if a seventh of the night takes the angle's place
unfoldable pub fajr_asked_of : Parameters → Float → Option ℤ → Option ℤ
fajr_asked_of p latitude hour = cond (by_seventh_of p.method latitude) None hour

-- none if an interval or a seventh of the night takes the angle's place
unfoldable pub isha_asked_of : Parameters → Float → Option ℤ → Option ℤ
isha_asked_of p latitude hour = cond (int_lt (pos 0) p.isha_interval) None (cond (by_seventh_of p.method latitude) None hour)

-- a row's hours without those that no time needs
abbrev pub asked_of : Parameters → Float → RowHours → RowHours
asked_of p latitude h =
    record {
      suns = h.suns;
      fajr = fajr_asked_of p latitude h.fajr;
      asr = h.asr;
      isha = isha_asked_of p latitude h.isha;
      fajr_tomorrow = fajr_asked_of p latitude h.fajr_tomorrow;
    }

abbrev pub twilight_sines_of : Parameters → TwilightSines
twilight_sines_of p = record { fajr = sin_of (radians_of (fajr_angle_of p)); isha = sin_of (radians_of (isha_angle_of p)) }

-- from the sine of the angle, over the day's course
abbrev pub fajr_hour_of : Setting → Float → Course → Option ℤ
fajr_hour_of s sine course =
    fajr_asked_of s.parameters s.coordinates.latitude
    (solar_hour_of s.rules.midnight (course_sine_number_of course sine (fajr_angle_of s.parameters) false))

abbrev pub isha_hour_of : Setting → Float → Course → Option ℤ
isha_hour_of s sine course =
    isha_asked_of s.parameters s.coordinates.latitude
    (solar_hour_of s.rules.midnight (course_sine_number_of course sine (isha_angle_of s.parameters) true))

abbrev pub asr_hour_of : Setting → Course → Option ℤ
asr_hour_of s course = solar_hour_of s.rules.midnight (course_afternoon_number_of course s.coordinates.latitude (shadow_of s.parameters))
