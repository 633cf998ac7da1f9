-- solar.rs: the hour numbers of a day over a place. They are the source's calls of corrected_transit and corrected_hour_angle with the
-- sun's positions on the day, the day before and the day after.
use Rattle.std.specs.Prelude.{Bool, true, false, Float}
use Rattle.std.specs.Float.Ieee.{neg}
use Rattle.float64.specs.Ops.{◌+ᶠ◌, ◌-ᶠ◌, ◌/ᶠ◌, dec}
use Rattle.float64.specs.Sizes.{abs_of}
use Rattle.fdlibm_trig.specs.Trig.{tan_of}
use Rattle.fdlibm_arc.specs.Atan.{atan_of}
use Rattle.calendar.specs.Answers.{yesterday_of, tomorrow_of}
use Rattle.calendar.specs.declared.dates.Date.{Date}
use Rattle.unit.specs.declared.Angle.{Angle}
use Rattle.unit.specs.declared.Coordinates.{Coordinates}
use Rattle.unit.specs.Unit.{angle_of, from_radians_of, radians_of, longitude_angle_of}
use Rattle.ops.specs.declared.coordinates.SolarCoordinates.{SolarCoordinates}
use Rattle.ops.specs.Coordinates.{position_of}
use Rattle.ops.specs.Transit.{approximate_transit_of, corrected_transit_of, corrected_hour_angle_of}
use Rattle.solar.specs.declared.hours.HourNumbers.{HourNumbers}

-- SolarTime: `observer`, `prev_solar`, `solar` and `next_solar`
pub record Sun : Type 0 where
  pub place : Coordinates
  pub previous : SolarCoordinates
  pub today : SolarCoordinates
  pub next : SolarCoordinates

-- SolarTime::new: `yesterday`, `today` and `tomorrow`, each at 0h
abbrev pub sun_on : Coordinates → Date → Sun
sun_on place date =
    record { place = place; previous = position_of (yesterday_of date); today = position_of date; next = position_of (tomorrow_of date) }

-- `solar_altitude`: the sun's center is 50 minutes of arc below the horizon at sunrise and sunset
unfoldable pub solar_altitude : Angle
unfolding dec
solar_altitude = angle_of (neg (dec 50 0) /ᶠ dec 60 0)

abbrev pub approx_transit_of : Sun → Float
approx_transit_of s = approximate_transit_of (longitude_angle_of s.place) s.today.apparent_sidereal_time s.today.right_ascension

unfoldable pub transit_number_of : Sun → Float
transit_number_of s =
    corrected_transit_of (approx_transit_of s) (longitude_angle_of s.place) s.today.apparent_sidereal_time
    s.today.right_ascension s.previous.right_ascension s.next.right_ascension

-- time_for_solar_angle: `hours`, at which the sun is at an angle, before or after its transit
unfoldable pub angle_number_of : Sun → Angle → Bool → Float
angle_number_of s angle after =
    corrected_hour_angle_of (approx_transit_of s) angle s.place after s.today.apparent_sidereal_time
    s.today.right_ascension s.previous.right_ascension s.next.right_ascension
    s.today.declination s.previous.declination s.next.declination

unfoldable pub hour_numbers_of : Sun → HourNumbers
hour_numbers_of s =
    record {
      transit = transit_number_of s;
      sunrise = angle_number_of s solar_altitude false;
      sunset = angle_number_of s solar_altitude true;
    }

-- afternoon: `angle`, at which a shadow has grown by `shadow` lengths
unfoldable pub shadow_angle_of : Float → Float → Float → Angle
unfolding dec
shadow_angle_of latitude declination shadow =
    from_radians_of (atan_of (dec 1 0 /ᶠ (shadow +ᶠ tan_of (radians_of (angle_of (abs_of (latitude -ᶠ declination)))))))

-- the hour number of Asr
unfoldable pub afternoon_number_of : Sun → Float → Float
afternoon_number_of s shadow = angle_number_of s (shadow_angle_of s.place.latitude s.today.declination.degrees shadow) true
