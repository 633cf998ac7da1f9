-- The bound of the cosine, in units of 2 ^ -64. k_cos.c computes 1 - (z / 2 - z z (C1 + z (C2 + ..))) with z = x x; from 0.3 on it uses q,
-- about x / 4. The rounding errors are at most 7,297 units, and below 0.3 at most 3,713. Without rounding the result is 1 + z p, and p is
-- within 2 ^ 10 units of nine terms of the series: at most 577 units more. Together this is less than 2 ^ 13 units, 2 ^ -51. Assumes
-- nothing.
use Rattle.prelude.proofs.Logic.{◌≡◌, refl, sym, ◌∙◌, Bool, true, false, cond, List, [], ◌∷◌, ℕ, ◌+◌, ◌*◌, ◌^◌, ◌<◌, le_trans, mul-pos}
use Rattle.prelude.proofs.Logic.{one-mul, one-le-pow, pow-zero, pow-succ', arith, T, ltb, lit<, lit≤, ℤ, le-leb}
use Rattle.float64.proofs.Floats.{Float, fin, up, down, size, of_bits, neg, down_pos, high_of, Within}
use Rattle.fdlibm_trig.specs.KSin.{half}
use Rattle.fdlibm_trig.specs.KCos.{one, C1, C2, C3, C4, C5, C6, quarter_of, kernel_cos_of}
use Rattle.fdlibm_trig.specs.KTan as KTan
use Rattle.fdlibm_trig.specs.Trig.{cos_of}
use Rattle.accuracy.specs.Accuracy.{top, ◌!, cosine_sum, CosineWithin}
use Rattle.accuracy.specs.Accuracy as Accuracy
use Rattle.accuracy.proofs.Algebra.{ring, sorted, square_power}
use Rattle.accuracy.proofs.Fractions.{Fraction, ◌⊞◌, ◌⊠◌, ⊟◌, nought, unity, unit, Close, itself, through, Same, scaled, same_close}
use Rattle.accuracy.proofs.Fractions.{written, sum, flip}
use Rattle.accuracy.proofs.Rounding.{signed, value, NearFraction}
use Rattle.accuracy.proofs.Expressions.{Expr, var, const, ◌⊖◌, ◌⊗◌, run, exact, bound, error, fine}
use Rattle.accuracy.proofs.Series.{from, terms, fall_is, side, side-is}
use Rattle.accuracy.proofs.Polynomials.{per, horner}
use Rattle.accuracy.proofs.Words.{high_le, high-tiny, quarter_within}
use Rattle.accuracy.proofs.Integers.{is_sum, within}
use Rattle.accuracy.proofs.Kernels.{for_moderate, Inputs, Input, x, q, z, Kernel, ten, ten_off, floats, of, run-near, ten-near}
use Rattle.accuracy.proofs.Kernels.{ten-tiny}

-- ---- k_cos.c's two formulas: 1 - (z / 2 - r), where r is z z (C1 + z ..) - x 0; and the same with q subtracted from both 1 and z / 2
abbrev higher : List Float
higher = C2 ∷ C3 ∷ C4 ∷ C5 ∷ C6 ∷ []

abbrev r : Expr Input
r = z ⊗ (z ⊗ horner z C1 higher) ⊖ var x ⊗ const KTan.zero nought

abbrev hz : Expr Input
hz = const half (per half) ⊗ z

abbrev plain : Expr Input
plain = const one unity ⊖ (hz ⊖ r)

abbrev split : Expr Input
split = const one unity ⊖ var q ⊖ (hz ⊖ var q ⊖ r)

-- ---- both are 1 + z (-1/2 + z (C1 + z ..)), and the series is 1 - x ^ 2 / 2! + x ^ 4 / 4! - ..
abbrev minus_half : Float
minus_half = neg half

abbrev kernel : Kernel
kernel = record {
  k = minus_half;
  l = C1 ∷ higher;
  n = 18 !;
  some = lit< tt;
  ts = terms 18 true (from 2 9);
  off = 2 ^ 10;
  close = unfold of_bits neg in tt;
  runs = unfold fine bound error unit of_bits neg size in tt;
  small = unfold bound unit of_bits neg in lit≤ tt;
}

split_same : (o h g d : Fraction) → Same (o ⊞ ⊟ d ⊞ ⊟ (h ⊞ ⊟ d ⊞ ⊟ g)) (o ⊞ ⊟ (h ⊞ ⊟ g))
split_same o h g d = record { balance = simp sorted }

dropped : (f g : Fraction) → Same (g ⊞ ⊟ (f ⊠ nought)) g
dropped f g = record { balance = simp sorted }

-- k is -h
factored : (h k y g : Fraction) → k.more ≡ h.less → k.less ≡ h.more → k.parts ≡ h.parts
    → Same (unity ⊞ ⊟ (h ⊠ y ⊞ ⊟ (y ⊠ g))) (unity ⊞ y ⊠ (k ⊞ g))
factored h k y g i j e = record { balance = simp (i, j, e, sorted) }

module _ (i : Inputs) where
  abbrev square : Fraction
  square = exact (of i) z

  exact-near : Close (exact (of i) plain) (ten kernel square) (0 + ten_off kernel)
  unfolding of_bits neg
  exact-near =
      let g = exact (of i) (horner z C1 higher) in
      let e = flip (same_close (dropped (value i.argument) (square ⊠ (square ⊠ g)))) in
      let d : Close (exact (of i) plain) (unity ⊞ ⊟ (per half ⊠ square ⊞ ⊟ (square ⊠ (square ⊠ g)))) 0 =
      sum (itself unity) (flip (sum (itself (per half ⊠ square)) e)) in
      through (written d (factored (per half) (per minus_half) square (square ⊠ g) refl refl refl)) (ten-near i kernel)

  plain-near : NearFraction (run (floats i) plain) (ten kernel square) (2 ^ 13)
  unfolding fine bound error unit of_bits size
  plain-near = run-near i plain tt exact-near (lit≤ tt)

  split-near : NearFraction (run (floats i) split) (ten kernel square) (2 ^ 13)
  unfolding fine bound error unit of_bits size
  split-near = run-near i split tt
      (through (same_close (split_same unity (exact (of i) hz) (exact (of i) r) (value i.second))) exact-near) (lit≤ tt)

  tiny-near : Within i.argument 1 (2 ^ 26) → NearFraction one (ten kernel square) (2 ^ 13)
  unfolding fine bound error unit of_bits size
  tiny-near t = run-near i (const one unity) tt (ten-tiny i kernel t) (lit≤ tt)

-- ---- the statement's sum of the powers 0, 2, .. 18
abbrev stated : (A D : ℕ) → 0 < D → Fraction
stated A D p = record {
  more = side 18 A D false (from 0 10);
  less = side 18 A D true (from 0 10);
  parts = 18 ! * D ^ 18;
  some = mul-pos (lit< tt) (one-le-pow 18 D p);
}

-- y is the square's numerator
series_is : (A D y : ℕ) (p : 0 < D) (s : 0 < D * D) → y ≡ A * A
    → Same (ten kernel (record { more = y; less = 0; parts = D * D; some = s })) (stated A D p)
series_is A D y p s Y =
    scaled (ten kernel (record { more = y; less = 0; parts = D * D; some = s })) (stated A D p) (D * D)
    (none_more (side-is 18 A D y Y false 10 0 refl))
    (fall_is y (D * D) 18 false (from 0 10) ∙ none_more (side-is 18 A D y Y true 10 0 refl))
    (rw (pow-succ' (D * D) 9, square_power D 9) (simp ring))
  where
    none_more : {S P : ℕ} → S ≡ A ^ 0 * P → P ≡ S
    none_more {S} {P} e = sym (e ∙ rw (pow-zero A) (one-mul P))

series_stated : (s : Bool) (A D : ℕ) (p : 0 < D) → Same (ten kernel (signed s A D p ⊠ signed s A D p)) (stated A D p)
series_stated false A D p = series_is A D _ p _ (omega arith)
series_stated true A D p = series_is A D _ p _ (omega arith)

-- ---- which branch cos takes
module _ (s : Bool) (m : ℕ) (e : ℤ) (h : Within (fin s m e) 3 4) where
  abbrev inputs : Inputs
  inputs = record {
    argument = fin s m e;
    second = quarter_of (high_of (fin s m e));
    moderately = h;
    slightly = quarter_within (high_of (fin s m e)) (high_le s m e h);
  }

  kernel-near : NearFraction (kernel_cos_of (fin s m e) KTan.zero) (ten kernel (square inputs)) (2 ^ 13)
  unfolding kernel_cos_of
  kernel-near = by_word (ltb (high_of (fin s m e)) 0x3e40_0000) (high-tiny s m e h) (ltb (high_of (fin s m e)) 0x3fd3_3333)
    where
      by_word : (b : Bool) → (T b → Within (fin s m e) 1 (2 ^ 26)) → (c : Bool)
          → NearFraction (cond b one (cond c (run (floats inputs) plain) (run (floats inputs) split))) (ten kernel (square inputs)) (2 ^ 13)
      by_word true t c = tiny-near inputs (t tt)
      by_word false t true = plain-near inputs
      by_word false t false = split-near inputs

  cosine-near : NearFraction (cos_of (fin s m e)) (stated (m * up e) (down e) (down_pos e)) (2 ^ 13)
  unfolding cos_of
  cosine-near =
      let n = kernel-near in
      rw (le-leb (high_of (fin s m e)) 0x3fe9_21fb (le_trans (high_le s m e h) (lit≤ tt)))
      (record { real = n.real; close = written n.close (series_stated s (m * up e) (down e) (down_pos e)) })

by_sign : (s : Bool) (m : ℕ) (e : ℤ) → Within (fin s m e) 3 4
    → Accuracy.WithinSum 51 (cos_of (fin s m e)) (cosine_sum (top (fin s m e)) (down e)) (18 ! * down e ^ 18)
unfolding unit
by_sign false m e h = within 51 (is_sum false 18 (m * up e) (down e) (from 0 10)) (cosine-near false m e h) (lit≤ tt)
by_sign true m e h = within 51 (is_sum true 18 (m * up e) (down e) (from 0 10)) (cosine-near true m e h) (lit≤ tt)

pub cosine_within : CosineWithin 51
cosine_within = for_moderate _ by_sign
