-- The bound of the sine, in units of 2 ^ -64. k_sin.c computes x + z x (S1 + z (S2 + ..)) with z = x x. The rounding errors are at most
-- 1,493 units. Without rounding the result is x (1 + z p), and p is within 2 ^ 13 units of nine terms of the series: at most 3,457 units
-- more. Together this is less than 2 ^ 13 units, 2 ^ -51. Assumes nothing.
use Rattle.prelude.proofs.Logic.{◌≡◌, refl, ◌∙◌, Bool, true, false, not, cond, List, [], ◌∷◌, ℕ, ◌+◌, ◌*◌, ◌^◌, ◌<◌, le_trans}
use Rattle.prelude.proofs.Logic.{add_comm, mul-pos, one-le-pow, pow-zero, pow-succ', arith, T, ltb, lit<, lit≤, ℤ, pos, le-leb}
use Rattle.float64.proofs.Floats.{Float, fin, up, down, size, of_bits, down_pos, high_of, Within}
use Rattle.fdlibm_trig.specs.KSin.{S1, S2, S3, S4, S5, S6, kernel_sin_of}
use Rattle.fdlibm_trig.specs.KTan as KTan
use Rattle.fdlibm_trig.specs.Trig.{sin_of}
use Rattle.accuracy.specs.Accuracy.{top, ◌!, sine_sum, SineWithin}
use Rattle.accuracy.specs.Accuracy as Accuracy
use Rattle.accuracy.proofs.Algebra.{flat, ring, sorted, square_power}
use Rattle.accuracy.proofs.Fractions.{Fraction, ◌⊞◌, ◌⊠◌, unity, unit, Close, looser, through, Same, scaled, written, times}
use Rattle.accuracy.proofs.Fractions.{same_close}
use Rattle.accuracy.proofs.Rounding.{signed, value, NearFraction}
use Rattle.accuracy.proofs.Expressions.{Expr, var, ◌⊕◌, ◌⊗◌, run, exact, units, units_enough, bound, error, fine}
use Rattle.accuracy.proofs.Forms.{poly}
use Rattle.accuracy.proofs.Series.{rise, fall, from, terms, fall_is, side, side-is}
use Rattle.accuracy.proofs.Polynomials.{horner, rows, near}
use Rattle.accuracy.proofs.{Words.high_le, Words.high-tiny, Integers.is_sum, Integers.within}
use Rattle.accuracy.proofs.Kernels.{for_moderate, exactly, Inputs, Input, x, sizes, z, Kernel, ten, ten_off, floats, given, of}
use Rattle.accuracy.proofs.Kernels.{run-near, ten-near, ten-tiny}

-- ---- k_sin.c's polynomial, x + z x (S1 + z ..), and the series x - x ^ 3 / 3! + ..
abbrev higher : List Float
higher = S2 ∷ S3 ∷ S4 ∷ S5 ∷ S6 ∷ []

abbrev code : Expr Input
code = var x ⊕ z ⊗ var x ⊗ horner z S1 higher

-- by itself, since tests/accuracy/digit changes a digit of S2 and looks for it
kernel_close : T (near (19 !) (rows (S1 ∷ higher) (terms 19 true (from 3 9))) (2 ^ 13))
unfolding of_bits
kernel_close = tt

abbrev kernel : Kernel
kernel = record {
  k = S1;
  l = higher;
  n = 19 !;
  some = lit< tt;
  ts = terms 19 true (from 3 9);
  off = 2 ^ 13;
  close = kernel_close;
  runs = unfold fine bound error unit of_bits size in tt;
  small = unfold bound unit of_bits in lit≤ tt;
}

-- x times ten terms in x ^ 2
abbrev series : Fraction → Fraction
series f = f ⊠ ten kernel (f ⊠ f)

taken_out : (f g : Fraction) → Same (f ⊞ f ⊠ f ⊠ f ⊠ g) (f ⊠ (unity ⊞ f ⊠ f ⊠ g))
taken_out f g = record { balance = simp sorted }

module _ (a : Float) (h : Within a 3 4) where
  abbrev i : Inputs
  i = record { argument = a; second = fin false 0 (pos 0); moderately = h; slightly = lit≤ tt }

  exact-near : Close (exact (of i) code) (series (value a)) (0 + units (sizes x * ten_off kernel))
  exact-near = through (same_close (taken_out (value a) (exact (of i) (horner z S1 higher))))
      (times (given i x).sized (ten-near i kernel) (units_enough (sizes x * ten_off kernel)))

  code-near : NearFraction (run (floats i) code) (series (value a)) (2 ^ 13)
  unfolding fine bound error unit of_bits size
  code-near = run-near i code tt exact-near (lit≤ tt)

  tiny-near : Within a 1 (2 ^ 26) → NearFraction a (series (value a)) (2 ^ 13)
  unfolding unit
  tiny-near t =
      let k = exactly a 1 (2 ^ 26) (2 ^ 38) (lit< tt) (lit≤ tt) t in
      let r : Close (value a ⊠ unity) (series (value a)) 1 = times k.sized (ten-tiny i kernel t) (lit≤ tt) in
      record { real = k.near.real; close = looser (lit≤ tt) (through (same_close (record { balance = omega arith })) r) }

-- ---- the statement's sum of the powers 1, 3, .. 19, which has x's sign
abbrev stated : Bool → (A D : ℕ) → 0 < D → Fraction
stated s A D p = record {
  more = side 19 A D s (from 1 10);
  less = side 19 A D (not s) (from 1 10);
  parts = 19 ! * D ^ 19;
  some = mul-pos (lit< tt) (one-le-pow 19 D p);
}

-- x is A / D, y is its square
module _ (A D y : ℕ) (Y : y ≡ A * A) where
  abbrev R : ℕ
  R = poly y (D * D) rise (terms 19 false (from 1 10))

  abbrev F : ℕ
  F = poly y (D * D) fall (terms 19 false (from 1 10))

  one_more : (S P Q : ℕ) → S ≡ A ^ 1 * P → A * P + 0 * Q ≡ S
  one_more S P Q e = rw (e, pow-succ' A 0, pow-zero A) (simp flat)

  rises : A * R + 0 * F ≡ side 19 A D false (from 1 10) * (D * D)
  rises = one_more _ R F (side-is 19 A D y Y false 10 1 refl)

  falls : A * F + 0 * R ≡ side 19 A D true (from 1 10) * (D * D)
  falls = one_more _ F R (rw (fall_is y (D * D) 19 false (from 1 10)) (side-is 19 A D y Y true 10 1 refl))

whole : (D : ℕ) → D * (19 ! * (D * D) ^ 10) ≡ 19 ! * D ^ 19 * (D * D)
whole D = rw (pow-succ' (D * D) 9, pow-succ' D 18, square_power D 9) (simp ring)

series_stated : (s : Bool) (A D : ℕ) (p : 0 < D) → Same (series (signed s A D p)) (stated s A D p)
series_stated false A D p =
    scaled (series (signed false A D p)) (stated false A D p) (D * D) (rises A D _ (omega arith)) (falls A D _ (omega arith)) (whole D)
series_stated true A D p =
    scaled (series (signed true A D p)) (stated true A D p) (D * D) (add_comm _ _ ∙ falls A D _ (omega arith))
    (add_comm _ _ ∙ rises A D _ (omega arith)) (whole D)

-- ---- which branch sin takes
module _ (s : Bool) (m : ℕ) (e : ℤ) (h : Within (fin s m e) 3 4) where
  kernel-near : NearFraction (kernel_sin_of (fin s m e) KTan.zero false) (series (value (fin s m e))) (2 ^ 13)
  unfolding kernel_sin_of
  kernel-near = by_word (ltb (high_of (fin s m e)) 0x3e40_0000) (high-tiny s m e h)
    where
      by_word : (b : Bool) → (T b → Within (fin s m e) 1 (2 ^ 26))
          → NearFraction (cond b (fin s m e) (run (floats (i (fin s m e) h)) code)) (series (value (fin s m e))) (2 ^ 13)
      by_word true t = tiny-near (fin s m e) h (t tt)
      by_word false t = code-near (fin s m e) h

  sine-near : NearFraction (sin_of (fin s m e)) (stated s (m * up e) (down e) (down_pos e)) (2 ^ 13)
  unfolding sin_of
  sine-near =
      let n = kernel-near in
      rw (le-leb (high_of (fin s m e)) 0x3fe9_21fb (le_trans (high_le s m e h) (lit≤ tt)))
      (record { real = n.real; close = written n.close (series_stated s (m * up e) (down e) (down_pos e)) })

sine_by_sign : (s : Bool) (m : ℕ) (e : ℤ) → Within (fin s m e) 3 4
    → Accuracy.WithinSum 51 (sin_of (fin s m e)) (sine_sum (top (fin s m e)) (down e)) (19 ! * down e ^ 19)
unfolding unit
sine_by_sign false m e h = within 51 (is_sum false 19 (m * up e) (down e) (from 1 10)) (sine-near false m e h) (lit≤ tt)
sine_by_sign true m e h = within 51 (is_sum true 19 (m * up e) (down e) (from 1 10)) (sine-near true m e h) (lit≤ tt)

pub sine_within : SineWithin 51
sine_within = for_moderate _ sine_by_sign
