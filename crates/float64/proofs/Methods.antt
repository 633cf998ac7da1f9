-- The definitions of std's methods of f64 are those of this crate. Assumes nothing.
use Rattle.prelude.proofs.Logic.{◌≡◌, refl, ap, ◌∙◌, true, false, ◌||◌, ◌&&◌, ◌*◌, ◌^◌, ℕ, one-mul, leb, ltb, eqb, arith}
use Rattle.prelude.proofs.Ieee.{Float, nan, inf, fin, up, down, binary64, le, lt, of_bits, is_nan}
use Rattle.std.proofs.lemmas.Bool.Decides.{nat_tests}
use Rattle.std.specs.Float.{float_with_sign, float_is_finite, is_sign_negative, is_normal}
use Rattle.float64.specs.Sizes.{abs_of, is_normal_of}
use Rattle.float64.specs.Words.{is_negative_of}

pub abs_is : (x : Float) → float_with_sign false x ≡ abs_of x
unfolding float_with_sign abs_of
abs_is nan = refl
abs_is (inf s) = refl
abs_is (fin s m e) = refl

pub negative_is : (x : Float) → is_sign_negative x ≡ is_negative_of x
unfolding is_sign_negative is_negative_of
negative_is nan = refl
negative_is (inf s) = refl
negative_is (fin s m e) = refl

pub nan_plus : (x : Float) → is_nan x ≡ true → is_negative_of x ≡ false
unfolding is_nan is_negative_of
nan_plus nan h = refl
nan_plus (inf s) h = cc
nan_plus (fin s m e) h = cc

pub nan_is : of_bits binary64 0x7ff8_0000_0000_0000 ≡ nan
unfolding of_bits
nan_is = refl

at_most : (a b : ℕ) → (ltb a b || (eqb a b && true)) ≡ leb a b
at_most a b = grind (arith, nat_tests)

pub normal_is : (x : Float) → is_normal binary64 x ≡ is_normal_of x
unfolding float_with_sign float_is_finite is_normal_of le lt of_bits
normal_is nan = refl
normal_is (inf s) = refl
normal_is (fin s m e) = at_most _ _ ∙ ap (λ (n : ℕ). leb n (m * up e * 2 ^ 1022)) (one-mul (down e))
