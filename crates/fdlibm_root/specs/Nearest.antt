-- No other float is as near to the exact root. This is said of whole numbers alone, so a reader need not trust how `sqrt_of` rounds. The
-- unit of a size is the smallest float, 2 ^ -1074. If x has the size a, the exact root has the size √(a * 2 ^ 1074).
use Rattle.std.specs.Prelude.{ℕ, ◌+◌, ◌*◌, ◌^◌, ◌<◌, false, T, Float}
use Rattle.std.specs.Float.{binary64}
use Rattle.std.specs.Float.Ieee.{fits}
use Rattle.std.specs.Float.Ieee.Exact.{HasValue}
use Rattle.fdlibm_root.specs.Root.{sqrt_of}

-- √n is nearer to r than to b: it is on r's side of the middle between the two, (r + b) / 2
pub record Nearer (n r b : ℕ) : Type 0 where
  pub from_below : b < r → (r + b) * (r + b) < 4 * n
  pub from_above : r < b → 4 * n < (r + b) * (r + b)

-- r is the float that is nearest to √n; `size` is its size
pub record NearestFloat (n : ℕ) (r : Float) : Type 0 where
  pub size : ℕ
  pub value : HasValue r false size (2 ^ 1074)
  pub nearest : (y : Float) (b : ℕ) → T (fits binary64 y) → HasValue y false b (2 ^ 1074) → Nearer n size b

-- for every float x above 0. Proved in proofs/Nearest.antt, `sqrt_is_nearest`.
abbrev pub SqrtIsNearest : Type 0
SqrtIsNearest = (x : Float) (a : ℕ) → T (fits binary64 x) → HasValue x false a (2 ^ 1074) → 0 < a → NearestFloat (a * 2 ^ 1074) (sqrt_of x)
