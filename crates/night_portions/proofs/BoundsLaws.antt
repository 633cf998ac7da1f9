-- The portions that bound Fajr and Isha. An order's parameters give at most a half, so each bound is in its half of the night. Laws of the
-- definitions of `Portions`. Assumes nothing.
use Rattle.prelude.proofs.Logic.{◌≡◌, refl, sym, ap, ◌∙◌, Bool, true, false, not, ℕ, suc, ◌*◌, ◌^◌, ◌≤◌, le_trans, arith, lit<, lit≤, ℤ}
use Rattle.prelude.proofs.Logic.{pos, negsuc, neg_ℤ, neg_ℤ-neg_ℤ}
use Rattle.float64.proofs.Floats.{Float, round, le, of_int, HasValue, dec, from_zero, signed}
use Rattle.integers.proofs.Integers.{P, N, Near, flip}
use Rattle.night_portions.specs.Portions.{night_fraction_of, portion_after_of, portion_before_of}
use Rattle.night_portions.proofs.Halves.{Halved, night, product-halved}

-- from 0 to a half; -0 is a zero
abbrev pub Portion : Float → Type 0
Portion p = (le (dec 0 0) p ≡ true) × (le p (dec 5 1) ≡ true)

abbrev Short : ℤ → Type 0
Short n = Near (2 ^ 31) n

pub half_value : HasValue (dec 5 1) false 1 2
unfolding dec round
half_value = (refl, refl)

-- ---- by the sign and the size of the night
abbrev negative : ℤ → Bool
negative (pos n) = false
negative (negsuc n) = true

abbrev seconds : ℤ → ℕ
seconds (pos n) = n
seconds (negsuc n) = suc n

seconds_most : (n : ℤ) → Short n → seconds n ≤ 2 ^ 31
seconds_most (pos d) k = k.to
seconds_most (negsuc d) k = k.from

fraction_halved : (p : Float) (n : ℤ) → Portion p → Short n → Halved (night_fraction_of p n) (negative n) (seconds n)
unfolding of_int night
fraction_halved p (pos d) h k = product-halved false d k.to p (from_zero p (dec 5 1) 1 2 (lit< tt) half_value h.0 h.1)
fraction_halved p (negsuc d) h k = product-halved true (suc d) k.from p (from_zero p (dec 5 1) 1 2 (lit< tt) half_value h.0 h.1)

after_parts : (n : ℤ) (w : ℕ) → w * 2 ≤ seconds n → (P (signed (negative n) w) * 2 ≤ P n) × (N (signed (negative n) w) * 2 ≤ N n)
after_parts (pos d) w l = (l, lit≤ tt)
after_parts (negsuc d) w l = let f = flip (pos w) in (omega arith, omega arith)

before_parts : (n : ℤ) (w : ℕ) → w * 2 ≤ seconds n
    → (P (signed (not (negative n)) w) * 2 ≤ N n) × (N (signed (not (negative n)) w) * 2 ≤ P n)
before_parts (pos d) w l = let f = flip (pos w) in (omega arith, omega arith)
before_parts (negsuc d) w l = (l, lit≤ tt)

opposites : (s : Bool) (w : ℕ) → signed (not s) w ≡ neg_ℤ (signed s w)
opposites true w = sym (neg_ℤ-neg_ℤ (pos w))
opposites false w = refl

-- ---- the laws
module _ (p : Float) (n : ℤ) (h : Portion p) (k : Short n) where
  cuts : Halved (night_fraction_of p n) (negative n) (seconds n)
  cuts = fraction_halved p n h k

  after_is : portion_after_of p n ≡ signed (negative n) cuts.whole
  unfolding portion_after_of
  after_is = cuts.cast 63 (le_trans (seconds_most n k) (lit≤ tt)) (lit< tt)

  before-is : portion_before_of p n ≡ signed (not (negative n)) cuts.whole
  unfolding portion_before_of
  before-is = cuts.opposite 63 (le_trans (seconds_most n k) (lit≤ tt)) (lit< tt)

  -- at most half of the night: after sunset for Isha, before sunrise for Fajr
  pub after-half : (P (portion_after_of p n) * 2 ≤ P n) × (N (portion_after_of p n) * 2 ≤ N n)
  after-half = rw after_is (after_parts n cuts.whole cuts.half)

  pub before-half : (P (portion_before_of p n) * 2 ≤ N n) × (N (portion_before_of p n) * 2 ≤ P n)
  before-half = rw before-is (before_parts n cuts.whole cuts.half)

  -- the two are opposites
  pub before_after : portion_before_of p n ≡ neg_ℤ (portion_after_of p n)
  before_after = before-is ∙ opposites (negative n) cuts.whole ∙ ap neg_ℤ (sym after_is)
