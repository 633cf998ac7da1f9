-- ops.rs: when the sun crosses the meridian and when it is at a given altitude, by Meeus, Astronomical Algorithms.
-- Each operation is rounded once, in the source's order. m is a fraction of the day.
use Rattle.std.specs.Prelude.{Bool, cond, Float}
use Rattle.std.specs.Float.Ieee.{neg}
use Rattle.float64.specs.Ops.{◌+ᶠ◌, ◌-ᶠ◌, ◌*ᶠ◌, ◌/ᶠ◌, dec}
use Rattle.fdlibm_trig.specs.Trig.{sin_of, cos_of}
use Rattle.fdlibm_arc.specs.Asin.{asin_of}
use Rattle.fdlibm_arc.specs.Acos.{acos_of}
use Rattle.unit.specs.declared.Angle.{Angle}
use Rattle.unit.specs.declared.Coordinates.{Coordinates}
use Rattle.unit.specs.Unit.{angle_of, from_radians_of, radians_of, unwound_of, quadrant_shifted_of, plus_of, minus_of, product_of, over_of}
use Rattle.unit.specs.Unit.{latitude_angle_of, longitude_angle_of, normalized_to_scale_of}

-- page 24: between three equidistant values
unfoldable pub interpolate_of : Float → Float → Float → Float → Float
unfolding dec
interpolate_of value previous next factor =
    let a = value -ᶠ previous in
    let b = next -ᶠ value in
    let c = b -ᶠ a in
    value +ᶠ factor /ᶠ dec 2 0 *ᶠ (a +ᶠ b +ᶠ factor *ᶠ c)

-- the same of angles, whose differences are unwound
unfoldable pub interpolate_angles_of : Angle → Angle → Angle → Float → Angle
unfolding dec
interpolate_angles_of value previous next factor =
    let a = unwound_of (minus_of value previous) in
    let b = unwound_of (minus_of next value) in
    let c = minus_of b a in
    angle_of (value.degrees +ᶠ factor /ᶠ dec 2 0 *ᶠ (a.degrees +ᶠ b.degrees +ᶠ factor *ᶠ c.degrees))

-- page 93
unfoldable pub altitude_of_celestial_body_of : Angle → Angle → Angle → Angle
altitude_of_celestial_body_of latitude declination hour =
    let term1 = sin_of (radians_of latitude) *ᶠ sin_of (radians_of declination) in
    let term2 = cos_of (radians_of latitude) *ᶠ cos_of (radians_of declination) *ᶠ cos_of (radians_of hour) in
    from_radians_of (asin_of (term1 +ᶠ term2))

-- the longitude counted to the west
unfoldable pub west_of : Angle → Angle
unfolding dec
west_of longitude = product_of longitude (angle_of (neg (dec 1 0)))

-- page 102: the fraction of the day at which the sun is near the meridian
unfoldable pub approximate_transit_of : Angle → Angle → Angle → Float
unfolding dec
approximate_transit_of longitude sidereal ascension =
    normalized_to_scale_of (over_of (minus_of (plus_of ascension (west_of longitude)) sidereal) (angle_of (dec 360 0))).degrees (dec 1 0)

-- page 102: the hour angle at m of a body whose right ascension is given for three days
unfoldable pub hour_angle_at_of : Float → Angle → Angle → Angle → Angle → Angle → Angle
unfolding dec
hour_angle_at_of m longitude sidereal ascension previous next =
    let plane = unwound_of (angle_of (sidereal.degrees +ᶠ dec 360985647 6 *ᶠ m)) in
    let interpolated = unwound_of (interpolate_angles_of ascension previous next m) in
    minus_of (minus_of plane (west_of longitude)) interpolated

-- page 102: the hour number of the transit
unfoldable pub corrected_transit_of : Float → Angle → Angle → Angle → Angle → Angle → Float
unfolding dec
corrected_transit_of m longitude sidereal ascension previous next =
    let angles = quadrant_shifted_of (hour_angle_at_of m longitude sidereal ascension previous next) in
    let delta = over_of angles (angle_of (neg (dec 360 0))) in
    (m +ᶠ delta.degrees) *ᶠ dec 24 0

-- page 102: the hour number at which the sun is at an altitude, before or after its transit
unfoldable pub corrected_hour_angle_of : Float → Angle → Coordinates → Bool → Angle → Angle → Angle → Angle → Angle → Angle → Angle → Float
unfolding dec
corrected_hour_angle_of transit angle place after sidereal ascension previous next declination previous-declination next-declination =
    let latitude = latitude_angle_of place in
    let term1 = sin_of (radians_of angle) -ᶠ sin_of (radians_of latitude) *ᶠ sin_of (radians_of declination) in
    let term2 = cos_of (radians_of latitude) *ᶠ cos_of (radians_of declination) in
    let arc = from_radians_of (acos_of (term1 /ᶠ term2)) in
    let m = cond after (transit +ᶠ arc.degrees /ᶠ dec 360 0) (transit -ᶠ arc.degrees /ᶠ dec 360 0) in
    let hour = hour_angle_at_of m (longitude_angle_of place) sidereal ascension previous next in
    let declination_at = angle_of (interpolate_of declination.degrees previous-declination.degrees next-declination.degrees m) in
    let altitude = altitude_of_celestial_body_of latitude declination_at hour in
    let term3 = (minus_of altitude angle).degrees in
    let term4 = dec 360 0 *ᶠ cos_of (radians_of declination_at) *ᶠ cos_of (radians_of latitude) *ᶠ sin_of (radians_of hour) in
    (m +ᶠ term3 /ᶠ term4) *ᶠ dec 24 0
