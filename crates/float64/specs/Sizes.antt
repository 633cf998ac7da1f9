-- The size of an f64: Rust's `abs` and `is_normal`.
use Rattle.std.specs.Prelude.{◌*◌, ◌^◌, Bool, false, nat_le, Float}
use Rattle.std.specs.Float.{nan, inf, fin}
use Rattle.std.specs.Float.Ieee.{up, down}

-- x with its sign cleared
unfoldable pub abs_of : Float → Float
abs_of nan = nan
abs_of (inf s) = inf false
abs_of (fin s m e) = fin false m e

-- finite, and at least 2 ^ -1022 in size
unfoldable pub is_normal_of : Float → Bool
is_normal_of nan = false
is_normal_of (inf s) = false
is_normal_of (fin s m e) = nat_le (down e) (m * up e * 2 ^ 1022)
