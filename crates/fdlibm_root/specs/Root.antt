-- The square root of a float: the exact root, rounded once. IEEE 754-2019, 5.4.1.
use Rattle.std.specs.Prelude.{ℕ, zero, suc, ◌+◌, ◌*◌, ◌/◌, ◌^◌, ◌≤◌, ◌<◌, true, false, cond, leb, eqb, Float}
use Rattle.std.specs.Float.{nan, inf, fin, binary64}
use Rattle.std.specs.Float.Ieee.{up, down, size, round}

-- r is the whole part of n's square root
pub record Root (n r : ℕ) : Type 0 where
  pub within : r * r ≤ n
  pub above : n < (r + 1) * (r + 1)

-- The whole part of the square root of an n below 4 ^ k, a binary digit at a time:
-- twice the root of a quarter of n, or one more if the square of one more is at most n.
unfoldable pub digits : ℕ → ℕ → ℕ
digits zero n = 0
digits (suc k) n = let r = 2 * digits k (n / 4) in cond (leb ((r + 1) * (r + 1)) n) (r + 1) r

-- The whole part of n's square root: proved for every n in proofs/RootLaws.antt, `whole_root_lem`.
unfoldable pub whole_root : ℕ → ℕ
whole_root n = digits (size n) n

-- 0 if r is exactly n's root, and 1 if something was cut off
abbrev pub rest : ℕ → ℕ → ℕ
rest n r = cond (eqb (r * r) n) 0 1

-- The root of n / 2 ^ 1200, rounded: r / 2 ^ 600 is the root cut to 600 binary places.
-- One more digit stands for all that was cut off: the one rounding sees from it on which side of a tie the root is.
unfoldable pub rounded_root : ℕ → Float
rounded_root n = let r = whole_root n in round binary64 false (2 * r + rest n r) (2 ^ 601)

-- √x. The smallest float is 2 ^ -1074, so x * 2 ^ 1200 is a whole number.
unfoldable pub sqrt_of : Float → Float
sqrt_of nan = nan
sqrt_of (inf true) = nan
sqrt_of (inf false) = inf false
sqrt_of (fin s zero e) = fin s zero e
sqrt_of (fin true (suc m) e) = nan
sqrt_of (fin false (suc m) e) = rounded_root (suc m * up e * 2 ^ 1200 / down e)
