-- The reader's division: both numbers are exact as floats, so the quotient is n / 360,000 rounded once. Assumes nothing.
use Rattle.prelude.proofs.Logic.{◌≡◌, refl, sym, true, false, ℕ, zero, suc, ◌*◌, ◌≤◌, ◌<◌, arith, eqb, lit<, pos, eq-eqb, ne_eqb}
use Rattle.float64.proofs.Floats.{Float, nan, inf, fin, binary64, up, down, round, of_int, of_bits, div, neg, HasValue, down_pos, round_whole}
use Rattle.float64.proofs.Floats.{round_same, big, round-neg}
use Rattle.map_form.specs.Hundredths.{signed, degrees_of}

-- 360,000 as the source has it
abbrev divisor : Float
divisor = of_bits binary64 0x4115_f900_0000_0000

positive : (d : ℕ) → 0 < d → 0 < 360000 * d
positive d h = omega arith

by_value : (x : Float) (n : ℕ) → HasValue x false n 1 → div binary64 x divisor ≡ round binary64 false n 360000
unfolding div of_bits
by_value nan n v = absurd v
by_value (inf s) n v = absurd v
by_value (fin s m e) n v =
    rw v.0
    (round_same binary64 false (m * up e * 1) (360000 * down e) n 360000 (positive (down e) (down_pos e)) (lit< tt) (omega (arith, v.1)))

quotient : (n : ℕ) → n ≤ big → div binary64 (of_int binary64 (pos n)) divisor ≡ round binary64 false n 360000
unfolding of_int
quotient n h = by_value (round binary64 false n 1) n (round_whole binary64 false n h)

-- ---- the reader's branches: n is the size that the code computed, and k the definition's
module _ (sign n k : ℕ) (e : n ≡ k) (small : n ≤ big) where
  pub negative : sign ≡ 1 → 0 < n → neg (div binary64 (of_int binary64 (pos n)) divisor) ≡ degrees_of (signed (eqb sign 1) k)
  unfolding degrees_of
  negative s h = rw (quotient n small, eq-eqb sign 1 s, ← e) (go n h)
    where
      go : (n : ℕ) → 0 < n → neg (round binary64 false n 360000) ≡ degrees_of (signed true n)
      go zero h = absurd (omega arith)
      go (suc n) h = sym (round-neg (suc n) 360000)

  pub naught : sign ≡ 1 → n ≤ 0 → div binary64 (of_int binary64 (pos n)) divisor ≡ degrees_of (signed (eqb sign 1) k)
  naught s h = rw (quotient n small, eq-eqb sign 1 s, ← e) (go n h)
    where
      go : (n : ℕ) → n ≤ 0 → round binary64 false n 360000 ≡ degrees_of (signed true n)
      go zero h = unfold degrees_of in refl
      go (suc n) h = absurd (omega arith)

  pub plain : (sign ≡ 1 → ⊥) → div binary64 (of_int binary64 (pos n)) divisor ≡ degrees_of (signed (eqb sign 1) k)
  unfolding degrees_of
  plain s = rw (quotient n small, ne_eqb sign 1 s, ← e)
