-- This file need not be believed: it is Sun's and Transit's formulas over what several calls share and is worked once: the sine and cosine
-- of an angle, the differences of an interpolation, the products of sines and of cosines. proofs/SharedLaws.antt says so of Transit's,
-- and of what a position and a sidereal time begin with.
use Rattle.std.specs.Prelude.{Bool, cond, Float}
use Rattle.std.specs.Float.Ieee.{neg}
use Rattle.float64.specs.Ops.{◌+ᶠ◌, ◌-ᶠ◌, ◌*ᶠ◌, ◌/ᶠ◌, dec}
use Rattle.fdlibm_trig.specs.Trig.{sin_of, cos_of}
use Rattle.fdlibm_arc.specs.Asin.{asin_of}
use Rattle.fdlibm_arc.specs.Acos.{acos_of}
use Rattle.unit.specs.declared.Angle.{Angle}
use Rattle.unit.specs.declared.Coordinates.{Coordinates}
use Rattle.unit.specs.Unit.{angle_of, from_radians_of, radians_of, unwound_of, quadrant_shifted_of, plus_of, minus_of, over_of, latitude_angle_of}
use Rattle.unit.specs.Unit.{longitude_angle_of, normalized_to_scale_of}
use Rattle.ops.specs.declared.coordinates.Equatorial.{Equatorial}
use Rattle.ops.specs.declared.coordinates.MeanElements.{MeanElements}
use Rattle.ops.specs.declared.coordinates.SolarCoordinates.{SolarCoordinates}
use Rattle.ops.specs.declared.interpolation.Interpolation.{Interpolation}
use Rattle.ops.specs.declared.sun.Nutation.{Nutation}
use Rattle.ops.specs.declared.sun.Apparent.{Apparent}
use Rattle.ops.specs.declared.transit.Observer.{Observer}
use Rattle.ops.specs.declared.transit.Course.{Course}
use Rattle.ops.specs.Coordinates.{declination_of, right_ascension_of, apparent_sidereal_time_of}
use Rattle.ops.specs.Sun.{apparent_solar_longitude_of, apparent_obliquity_of_the_ecliptic_of, nutation_in_longitude_of, nutation_in_obliquity_of}
use Rattle.ops.specs.Sun.{julian_century_of, mean_solar_longitude_of, mean_obliquity_of_the_ecliptic_of}
use Rattle.ops.specs.Transit.{west_of}

-- what the sine and the cosine of one angle correct together
abbrev pub nutations_of : Angle → Angle → Angle → Nutation
nutations_of solar lunar node =
    record { longitude = nutation_in_longitude_of solar lunar node; obliquity = nutation_in_obliquity_of solar lunar node }

abbrev pub apparent_position_of : Float → Angle → Angle → Apparent
apparent_position_of t longitude obliquity =
    record { longitude = apparent_solar_longitude_of t longitude; obliquity = apparent_obliquity_of_the_ecliptic_of t obliquity }

-- what the sines and cosines of the obliquity and of the longitude give together
abbrev pub equatorial_of : Float → Float → Equatorial
equatorial_of obliquity longitude =
    record { declination = declination_of obliquity longitude; right_ascension = right_ascension_of obliquity longitude }

-- what the position and the sidereal time of a day both begin with, and each of the two from it
abbrev pub mean_elements_of : Float → MeanElements
mean_elements_of day =
    let t = julian_century_of day in
    record { century = t; longitude = mean_solar_longitude_of t; obliquity = mean_obliquity_of_the_ecliptic_of t }

unfoldable pub mean_place_of : MeanElements → Equatorial
mean_place_of m =
    let apparent = apparent_position_of m.century m.longitude m.obliquity in
    equatorial_of (radians_of apparent.obliquity) (radians_of apparent.longitude)

unfoldable pub mean_sidereal_of : MeanElements → Angle
mean_sidereal_of m = apparent_sidereal_time_of m.century m.longitude m.obliquity

-- a position without its sidereal time, and the sidereal time
abbrev pub place_of : SolarCoordinates → Equatorial
place_of p = record { declination = p.declination; right_ascension = p.right_ascension }

abbrev pub sidereal_time_of : SolarCoordinates → Angle
sidereal_time_of p = p.apparent_sidereal_time

-- the differences of an interpolation: a + b and c
abbrev pub differences_of : Float → Float → Float → Interpolation
differences_of value previous next =
    let a = value -ᶠ previous in
    let b = next -ᶠ value in
    record { value = value; sum = a +ᶠ b; change = b -ᶠ a }

abbrev pub angle_differences_of : Angle → Angle → Angle → Interpolation
angle_differences_of value previous next =
    let a = (unwound_of (minus_of value previous)).degrees in
    let b = (unwound_of (minus_of next value)).degrees in
    record { value = value.degrees; sum = a +ᶠ b; change = b -ᶠ a }

unfoldable pub interpolated_of : Interpolation → Float → Float
unfolding dec
interpolated_of i factor = i.value +ᶠ factor /ᶠ dec 2 0 *ᶠ (i.sum +ᶠ factor *ᶠ i.change)

-- a place: its longitude to the west, and the sine and cosine of its latitude
abbrev pub observer_of : Coordinates → Observer
observer_of place =
    let latitude = radians_of (latitude_angle_of place) in
    record { west = west_of (longitude_angle_of place); sine = sin_of latitude; cosine = cos_of latitude }

-- the approximate transit, from the longitude counted to the west
unfoldable pub transit_from_of : Angle → Angle → Angle → Float
unfolding dec
transit_from_of west sidereal ascension =
    normalized_to_scale_of (over_of (minus_of (plus_of ascension west) sidereal) (angle_of (dec 360 0))).degrees (dec 1 0)

-- the sun's course over a place on a day, from its transit, the sidereal time, and the positions of the day and of the days beside it
abbrev pub course_through_of : Float → Observer → Angle → Equatorial → Equatorial → Equatorial → Course
course_through_of transit observer sidereal previous today next =
    record {
      observer = observer;
      transit = transit;
      sidereal_time = sidereal;
      right_ascension = angle_differences_of today.right_ascension previous.right_ascension next.right_ascension;
      declination = differences_of today.declination.degrees previous.declination.degrees next.declination.degrees;
      sines = observer.sine *ᶠ sin_of (radians_of today.declination);
      cosines = observer.cosine *ᶠ cos_of (radians_of today.declination);
    }

abbrev pub course_of : Observer → Angle → Equatorial → Equatorial → Equatorial → Course
course_of observer sidereal previous today next =
    course_through_of (transit_from_of observer.west sidereal today.right_ascension) observer sidereal previous today next

-- the sun's hour angle at m
unfoldable pub hour_angle_of : Course → Float → Angle
unfolding dec
hour_angle_of c m =
    let plane = unwound_of (angle_of (c.sidereal_time.degrees +ᶠ dec 360985647 6 *ᶠ m)) in
    minus_of (minus_of plane c.observer.west) (unwound_of (angle_of (interpolated_of c.right_ascension m)))

-- the hour number of the transit
unfoldable pub course_transit_number_of : Course → Float
unfolding dec
course_transit_number_of c =
    let delta = over_of (quadrant_shifted_of (hour_angle_of c c.transit)) (angle_of (neg (dec 360 0))) in
    (c.transit +ᶠ delta.degrees) *ᶠ dec 24 0

-- how much of a turn lies between the transit and an altitude, in degrees: from the altitude's sine, and from the altitude
unfoldable pub arc_to_sine_of : Course → Float → Float
arc_to_sine_of c sine = (from_radians_of (acos_of ((sine -ᶠ c.sines) /ᶠ c.cosines))).degrees

unfoldable pub half_arc_of : Course → Angle → Float
half_arc_of c angle = arc_to_sine_of c (sin_of (radians_of angle))

-- the transit moved by an arc, to the evening or to the morning
unfoldable pub moved_transit_of : Float → Float → Bool → Float
unfolding dec
moved_transit_of transit arc after = cond after (transit +ᶠ arc /ᶠ dec 360 0) (transit -ᶠ arc /ᶠ dec 360 0)

-- the hour number at which the sun is at the altitude, from its half arc
unfoldable pub hour_number_of : Course → Angle → Float → Bool → Float
unfolding dec
hour_number_of c angle arc after =
    let m = moved_transit_of c.transit arc after in
    let hour = radians_of (hour_angle_of c m) in
    let declination = radians_of (angle_of (interpolated_of c.declination m)) in
    let cosine = cos_of declination in
    let term1 = c.observer.sine *ᶠ sin_of declination in
    let term2 = c.observer.cosine *ᶠ cosine *ᶠ cos_of hour in
    let term3 = (minus_of (from_radians_of (asin_of (term1 +ᶠ term2))) angle).degrees in
    let term4 = dec 360 0 *ᶠ cosine *ᶠ c.observer.cosine *ᶠ sin_of hour in
    (m +ᶠ term3 /ᶠ term4) *ᶠ dec 24 0
