-- solar.rs: the sun's position at 0h of a day, operation by operation in f64.
use Rattle.std.specs.Prelude.{Float}
use Rattle.float64.specs.Ops.{◌+ᶠ◌, ◌*ᶠ◌, ◌/ᶠ◌, dec}
use Rattle.fdlibm_trig.specs.Trig.{sin_of, cos_of}
use Rattle.fdlibm_arc.specs.Asin.{asin_of}
use Rattle.fdlibm_arc.specs.Atan2.{atan2_of}
use Rattle.calendar.specs.declared.dates.Date.{Date}
use Rattle.julian.specs.Julian.{date_julian_day_of}
use Rattle.unit.specs.declared.Angle.{Angle}
use Rattle.unit.specs.Unit.{angle_of, from_radians_of, radians_of, unwound_of}
use Rattle.ops.specs.Sun.{julian_century_of, mean_solar_longitude_of, mean_lunar_longitude_of, ascending_lunar_node_longitude_of}
use Rattle.ops.specs.Sun.{apparent_solar_longitude_of, mean_obliquity_of_the_ecliptic_of, apparent_obliquity_of_the_ecliptic_of}
use Rattle.ops.specs.Sun.{mean_sidereal_time_of, nutation_in_longitude_of, nutation_in_obliquity_of}
use Rattle.ops.specs.declared.coordinates.SolarCoordinates.{SolarCoordinates}

-- page 165, from the apparent obliquity and longitude in radians
unfoldable pub declination_of : Float → Float → Angle
declination_of obliquity longitude = from_radians_of (asin_of (sin_of obliquity *ᶠ sin_of longitude))

-- page 165
unfoldable pub right_ascension_of : Float → Float → Angle
right_ascension_of obliquity longitude = unwound_of (from_radians_of (atan2_of (cos_of obliquity *ᶠ sin_of longitude) (cos_of longitude)))

-- page 88
unfoldable pub apparent_sidereal_time_of : Float → Angle → Angle → Angle
unfolding dec
apparent_sidereal_time_of t longitude obliquity =
    let lunar = mean_lunar_longitude_of t in
    let node = ascending_lunar_node_longitude_of t in
    let nutation = nutation_in_longitude_of longitude lunar node in
    let tilted = angle_of (obliquity.degrees +ᶠ nutation_in_obliquity_of longitude lunar node) in
    angle_of ((mean_sidereal_time_of t).degrees +ᶠ nutation *ᶠ dec 3600 0 *ᶠ cos_of (radians_of tilted) /ᶠ dec 3600 0)

unfoldable pub solar_coordinates_of : Float → SolarCoordinates
solar_coordinates_of day =
    let t = julian_century_of day in
    let mean_longitude = mean_solar_longitude_of t in
    let mean_obliquity = mean_obliquity_of_the_ecliptic_of t in
    let longitude = radians_of (apparent_solar_longitude_of t mean_longitude) in
    let obliquity = radians_of (apparent_obliquity_of_the_ecliptic_of t mean_obliquity) in
    record {
      declination = declination_of obliquity longitude;
      right_ascension = right_ascension_of obliquity longitude;
      apparent_sidereal_time = apparent_sidereal_time_of t mean_longitude mean_obliquity;
    }

-- at 0h of a date
abbrev pub position_of : Date → SolarCoordinates
position_of d = solar_coordinates_of (date_julian_day_of d)
