-- How near the sine and the cosine are to their series, request 13 of document 02:
-- "For each f64 argument from -0.75 to 0.75, the sine that we added lies within 2^-40 of the sum of the first ten terms of its series, up
-- to the nineteenth power over 19 factorial with alternating signs. The statement is over whole numbers: the argument and answer are whole
-- numbers scaled by powers of two, with every denominator multiplied out. The same is wanted of the cosine with its first ten terms. The
-- two bounds share one account of the rounding."
-- Proved in proofs/AccuracyLaws; the account of the rounding is proofs/Expressions.
use Rattle.std.specs.Prelude.{true, false, List, [], ◌∷◌, ℕ, zero, suc, ◌-◌, ◌*◌, ◌/◌, ◌^◌, ◌≤◌, T, Float, ℤ, pos, neg_ℤ, nat_abs, ◌-ℤ◌, ◌*ℤ◌}
use Rattle.std.specs.Float.{nan, inf, fin}
use Rattle.std.specs.Float.Ieee.{up, down, neg}
use Rattle.std.specs.Float.Ieee.Scale.{finite}
use Rattle.std.proofs.Math.IntN.{pow}
use Rattle.float64.specs.Ops.{dec}
use Rattle.float64.specs.Ranges.{Inside}
use Rattle.fdlibm_trig.specs.Trig.{sin_of, cos_of}

-- ---- argument and answer
-- A finite float `fin s m e` is m * 2 ^ e, negative if s: the whole number `top` over the power of two `bottom`. 2 ^ e is
-- `up e` / `down e`.
abbrev pub top : Float → ℤ
top nan = pos 0
top (inf s) = pos 0
top (fin false m e) = pos (m * up e)
top (fin true m e) = neg_ℤ (pos (m * up e))

abbrev pub bottom : Float → ℕ
bottom nan = 1
bottom (inf s) = 1
bottom (fin s m e) = down e

-- from -0.75 to 0.75, with both ends, both zeros and every subnormal, and without NaN
abbrev pub Moderate : Float → Type 0
Moderate x = Inside (neg (dec 75 2)) (dec 75 2) x

-- ---- the series, at the fraction a / d
infixl 90 ◌!
abbrev pub ◌! : ℕ → ℕ
zero ! = 1
suc n ! = suc n * n !

-- the term (a / d) ^ k / k! times n! d ^ n, a whole number for k up to n
abbrev pub term : ℕ → ℤ → ℕ → ℕ → ℤ
term n a d k = pow a k *ℤ pos (n ! / k ! * d ^ (n - k))

-- the terms of the listed powers, with alternating signs: t k - (t j - (t i - ..))
abbrev pub alternating : (ℕ → ℤ) → List ℕ → ℤ
alternating t [] = pos 0
alternating t (k ∷ l) = t k -ℤ alternating t l

-- ten terms, times 19! d ^ 19 and times 18! d ^ 18
abbrev pub sine_sum : ℤ → ℕ → ℤ
sine_sum a d = alternating (term 19 a d) (1 ∷ 3 ∷ 5 ∷ 7 ∷ 9 ∷ 11 ∷ 13 ∷ 15 ∷ 17 ∷ 19 ∷ [])

abbrev pub cosine_sum : ℤ → ℕ → ℤ
cosine_sum a d = alternating (term 18 a d) (0 ∷ 2 ∷ 4 ∷ 6 ∷ 8 ∷ 10 ∷ 12 ∷ 14 ∷ 16 ∷ 18 ∷ [])

-- ---- the bounds
-- y is finite, and within 2 ^ -k of sum / whole: |top / bottom - sum / whole| is at most 1 / 2 ^ k, here times 2 ^ k * whole * bottom
pub record WithinSum (k : ℕ) (y : Float) (sum : ℤ) (whole : ℕ) : Type 0 where
  pub real : T (finite y)
  pub near : 2 ^ k * nat_abs (top y *ℤ pos whole -ℤ sum *ℤ pos (bottom y)) ≤ whole * bottom y

abbrev pub SineWithin : ℕ → Type 0
SineWithin k = (x : Float) → Moderate x → WithinSum k (sin_of x) (sine_sum (top x) (bottom x)) (19 ! * bottom x ^ 19)

abbrev pub CosineWithin : ℕ → Type 0
CosineWithin k = (x : Float) → Moderate x → WithinSum k (cos_of x) (cosine_sum (top x) (bottom x)) (18 ! * bottom x ^ 18)

-- the bounds that request 13 asks for, and the better ones that the same proof gives
abbrev pub SineAndCosineAreNear : Type 0
SineAndCosineAreNear = SineWithin 40 × CosineWithin 40

abbrev pub SineAndCosineAreNearer : Type 0
SineAndCosineAreNearer = SineWithin 51 × CosineWithin 51
