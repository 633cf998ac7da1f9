-- unit.rs: angles in degrees and places on the earth. "Formulas are the crate's, each operation rounded once in its order" (document 01).
use Rattle.std.specs.Prelude.{cond, Float}
use Rattle.std.specs.Float.Ieee.{neg}
use Rattle.float64.specs.Ranges.{inside_of}
use Rattle.float64.specs.Ops.{◌+ᶠ◌, ◌-ᶠ◌, ◌*ᶠ◌, ◌/ᶠ◌, dec}
use Rattle.float64.specs.Whole.{floor_of, round_of}
use Rattle.unit.specs.declared.Angle.{Angle}
use Rattle.unit.specs.declared.Coordinates.{Coordinates}

abbrev pub pi : Float
pi = dec 314159265358979323846 20

abbrev pub half_turn : Float
half_turn = dec 180 0

abbrev pub full_turn : Float
full_turn = dec 360 0

-- x less the largest whole multiple of max that is not above it
unfoldable pub normalized_to_scale_of : Float → Float → Float
normalized_to_scale_of x max = x -ᶠ max *ᶠ floor_of (x /ᶠ max)

abbrev pub angle_of : Float → Angle
angle_of x = record { degrees = x }

abbrev pub from_radians_of : Float → Angle
from_radians_of x = angle_of (x *ᶠ half_turn /ᶠ pi)

abbrev pub radians_of : Angle → Float
radians_of a = a.degrees *ᶠ pi /ᶠ half_turn

-- the angle from 0 to 360 degrees
abbrev pub unwound_of : Angle → Angle
unwound_of a = angle_of (normalized_to_scale_of a.degrees full_turn)

-- the angle from -180 to 180 degrees
unfoldable pub quadrant_shifted_of : Angle → Angle
quadrant_shifted_of a =
    let x = a.degrees in
    cond (inside_of (neg half_turn) half_turn x) a (angle_of (x -ᶠ full_turn *ᶠ round_of (x /ᶠ full_turn)))

abbrev pub plus_of : Angle → Angle → Angle
plus_of a b = angle_of (a.degrees +ᶠ b.degrees)

abbrev pub minus_of : Angle → Angle → Angle
minus_of a b = angle_of (a.degrees -ᶠ b.degrees)

abbrev pub product_of : Angle → Angle → Angle
product_of a b = angle_of (a.degrees *ᶠ b.degrees)

-- a division by 0 gives an infinity or NaN, as f64 does
abbrev pub over_of : Angle → Angle → Angle
over_of a b = angle_of (a.degrees /ᶠ b.degrees)

-- "Latitude and longitude travel together as two f64 numbers" (document 01)
abbrev pub coordinates_of : Float → Float → Coordinates
coordinates_of latitude longitude = record { latitude = latitude; longitude = longitude }

abbrev pub latitude_angle_of : Coordinates → Angle
latitude_angle_of c = angle_of c.latitude

abbrev pub longitude_angle_of : Coordinates → Angle
longitude_angle_of c = angle_of c.longitude
