-- Whole numbers near an f64: Rust's `floor`, `trunc` and `round`, "helpers" (document 01).
-- The size of `fin s m e` is m * up e / down e: the quotient is its whole part, and the remainder is 0 if it has no fraction.
use Rattle.std.specs.Prelude.{ℕ, ◌+◌, ◌*◌, ◌/◌, ◌%◌, cond, ℤ, pos, negsuc, ◌==◌, nat_lt, Float}
use Rattle.std.specs.Float.{nan, inf, fin, binary64}
use Rattle.std.specs.Float.Ieee.{up, down, of_int, neg}

abbrev pub whole_part : ℕ → ℤ → ℕ
whole_part m e = m * up e / down e

abbrev pub fraction : ℕ → ℤ → ℕ
fraction m e = m * up e % down e

-- the largest whole number that is not above x
unfoldable pub floor_of : Float → Float
floor_of nan = nan
floor_of (inf s) = inf s
floor_of (fin s m e) = cond (fraction m e == 0) (fin s m e) (of_int binary64 (cond s (negsuc (whole_part m e)) (pos (whole_part m e))))

-- x without its fraction; it keeps x's sign: -0.5 gives -0.0
unfoldable pub trunc_of : Float → Float
trunc_of nan = nan
trunc_of (inf s) = inf s
trunc_of (fin s m e) = let whole = of_int binary64 (pos (whole_part m e)) in cond (fraction m e == 0) (fin s m e) (cond s (neg whole) whole)

-- the whole part, or one more if the fraction is a half or more
abbrev pub half_up : ℕ → ℤ → ℕ
half_up m e = cond (nat_lt (2 * fraction m e) (down e)) (whole_part m e) (whole_part m e + 1)

-- the nearest whole number, or the one further from zero if two are as near; it keeps x's sign
unfoldable pub round_of : Float → Float
round_of nan = nan
round_of (inf s) = inf s
round_of (fin s m e) = let whole = of_int binary64 (pos (half_up m e)) in cond (fraction m e == 0) (fin s m e) (cond s (neg whole) whole)
