-- ops.rs: where the sun is, by the formulas of Meeus, Astronomical Algorithms, at the pages that the source cites.
-- Each operation is rounded once, in the source's order. `dec n k` is the decimal number n / 10 ^ k, rounded once. t is the Julian century.
use Rattle.std.specs.Prelude.{Float}
use Rattle.std.specs.Float.Ieee.{neg}
use Rattle.float64.specs.Ops.{◌+ᶠ◌, ◌-ᶠ◌, ◌*ᶠ◌, ◌/ᶠ◌, dec}
use Rattle.fdlibm_trig.specs.Trig.{sin_of, cos_of}
use Rattle.unit.specs.declared.Angle.{Angle}
use Rattle.unit.specs.Unit.{angle_of, unwound_of, radians_of, plus_of}

abbrev pub square : Float → Float
square x = x *ᶠ x

abbrev pub cube : Float → Float
cube x = x *ᶠ x *ᶠ x

-- page 163
unfoldable pub julian_century_of : Float → Float
unfolding dec
julian_century_of day = (day -ᶠ dec 2451545 0) /ᶠ dec 36525 0

-- page 163
unfoldable pub mean_solar_longitude_of : Float → Angle
unfolding dec
mean_solar_longitude_of t = unwound_of (angle_of (dec 2804664567 7 +ᶠ dec 3600076983 5 *ᶠ t +ᶠ dec 3032 7 *ᶠ square t))

-- page 144
unfoldable pub mean_lunar_longitude_of : Float → Angle
unfolding dec
mean_lunar_longitude_of t = unwound_of (angle_of (dec 2183165 4 +ᶠ dec 4812678813 4 *ᶠ t))

-- page 144
unfoldable pub ascending_lunar_node_longitude_of : Float → Angle
unfolding dec
ascending_lunar_node_longitude_of t =
    unwound_of (angle_of (dec 12504452 5 -ᶠ dec 1934136261 6 *ᶠ t +ᶠ dec 20708 7 *ᶠ square t +ᶠ cube t /ᶠ dec 450000 0))

-- page 163
unfoldable pub mean_solar_anomaly_of : Float → Angle
unfolding dec
mean_solar_anomaly_of t = unwound_of (angle_of (dec 35752911 5 +ᶠ dec 3599905029 5 *ᶠ t -ᶠ dec 1537 7 *ᶠ square t))

-- page 164
unfoldable pub solar_equation_of_the_center_of : Float → Angle → Angle
unfolding dec
solar_equation_of_the_center_of t anomaly =
    let m = radians_of anomaly in
    let term1 = (dec 1914602 6 -ᶠ dec 4817 6 *ᶠ t -ᶠ dec 14 6 *ᶠ square t) *ᶠ sin_of m in
    let term2 = (dec 19993 6 -ᶠ dec 101 6 *ᶠ t) *ᶠ sin_of (dec 2 0 *ᶠ m) in
    let term3 = dec 289 6 *ᶠ sin_of (dec 3 0 *ᶠ m) in
    angle_of (term1 +ᶠ term2 +ᶠ term3)

-- the longitude of the moon's ascending node, as the corrections below take it
unfoldable pub omega_of : Float → Angle
unfolding dec
omega_of t = angle_of (dec 12504 2 -ᶠ dec 1934136 3 *ᶠ t)

-- page 164
unfoldable pub apparent_solar_longitude_of : Float → Angle → Angle
unfolding dec
apparent_solar_longitude_of t longitude =
    let true_longitude = plus_of longitude (solar_equation_of_the_center_of t (mean_solar_anomaly_of t)) in
    unwound_of (angle_of (true_longitude.degrees -ᶠ dec 569 5 -ᶠ dec 478 5 *ᶠ sin_of (radians_of (omega_of t))))

-- page 147
unfoldable pub mean_obliquity_of_the_ecliptic_of : Float → Angle
unfolding dec
mean_obliquity_of_the_ecliptic_of t = angle_of (dec 23439291 6 -ᶠ dec 13004167 9 *ᶠ t -ᶠ dec 1639 10 *ᶠ square t +ᶠ dec 5036 10 *ᶠ cube t)

-- page 165
unfoldable pub apparent_obliquity_of_the_ecliptic_of : Float → Angle → Angle
unfolding dec
apparent_obliquity_of_the_ecliptic_of t mean = angle_of (mean.degrees +ᶠ dec 256 5 *ᶠ cos_of (radians_of (omega_of t)))

-- page 165
unfoldable pub mean_sidereal_time_of : Float → Angle
unfolding dec
mean_sidereal_time_of t =
    let day = t *ᶠ dec 36525 0 +ᶠ dec 2451545 0 in
    unwound_of (angle_of
    (dec 28046061837 8 +ᶠ dec 36098564736629 11 *ᶠ (day -ᶠ dec 2451545 0) +ᶠ dec 387933 9 *ᶠ square t -ᶠ cube t /ᶠ dec 38710000 0))

-- page 144, in degrees: by the mean longitudes of the sun and the moon and that of the ascending node
unfoldable pub nutation_in_longitude_of : Angle → Angle → Angle → Float
unfolding dec
nutation_in_longitude_of solar lunar node =
    let term1 = neg (dec 172 1) /ᶠ dec 3600 0 *ᶠ sin_of (radians_of node) in
    let term2 = dec 132 2 /ᶠ dec 3600 0 *ᶠ sin_of (dec 2 0 *ᶠ radians_of solar) in
    let term3 = dec 23 2 /ᶠ dec 3600 0 *ᶠ sin_of (dec 2 0 *ᶠ radians_of lunar) in
    let term4 = dec 21 2 /ᶠ dec 3600 0 *ᶠ sin_of (dec 2 0 *ᶠ radians_of node) in
    term1 -ᶠ term2 -ᶠ term3 +ᶠ term4

-- page 144
unfoldable pub nutation_in_obliquity_of : Angle → Angle → Angle → Float
unfolding dec
nutation_in_obliquity_of solar lunar node =
    let term1 = dec 92 1 /ᶠ dec 3600 0 *ᶠ cos_of (radians_of node) in
    let term2 = dec 57 2 /ᶠ dec 3600 0 *ᶠ cos_of (dec 2 0 *ᶠ radians_of solar) in
    let term3 = dec 10 2 /ᶠ dec 3600 0 *ᶠ cos_of (dec 2 0 *ᶠ radians_of lunar) in
    let term4 = dec 9 2 /ᶠ dec 3600 0 *ᶠ cos_of (dec 2 0 *ᶠ radians_of node) in
    term1 +ᶠ term2 +ᶠ term3 -ᶠ term4
