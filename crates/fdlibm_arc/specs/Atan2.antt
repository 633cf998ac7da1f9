-- e_atan2.c: the angle of the point (x, y).
use Rattle.std.specs.Prelude.{ℕ, ◌+◌, Bool, cond, ◌&&◌, ltb, leb, eqb, Float}
use Rattle.std.specs.Float.{nan}
use Rattle.std.specs.Float.Ieee.{neg, eq, ne}
use Rattle.float64.specs.Ops.{◌+ᶠ◌, ◌-ᶠ◌, ◌*ᶠ◌, ◌/ᶠ◌, bits}
use Rattle.float64.specs.Sizes.{abs_of}
use Rattle.float64.specs.Words.{high_of, is_negative_of}
use Rattle.fdlibm_arc.specs.Atan.{atan_of, zero, one, minus_one}
use Rattle.fdlibm_arc.specs.Asin.{half}
use Rattle.fdlibm_arc.specs.Acos.{pi}

abbrev pub three : Float
three = bits 0x4008_0000_0000_0000

abbrev pub tiny : Float
tiny = bits 0x01a5_6e1f_c2f8_f359

abbrev pub pi_o_4 : Float
pi_o_4 = bits 0x3fe9_21fb_5444_2d18

abbrev pub pi_o_2 : Float
pi_o_2 = bits 0x3ff9_21fb_5444_2d18

abbrev pub pi_lo : Float
pi_lo = bits 0x3ca1_a626_3314_5c07

-- one of four by the signs of x and of y: the cases 0, 1, 2 and 3 of fdlibm's m
abbrev pub quadrant_of : Bool → Bool → Float → Float → Float → Float → Float
quadrant_of xs ys a b c d = cond xs (cond ys d c) (cond ys b a)

-- ±π/2, by the sign of y
abbrev pub upright_of : Bool → Float
upright_of ys = cond ys (neg pi_o_2 -ᶠ tiny) (pi_o_2 +ᶠ tiny)

-- y is 0
abbrev pub level_of : Bool → Bool → Float → Float
level_of xs ys y = quadrant_of xs ys y y (pi +ᶠ tiny) (neg pi -ᶠ tiny)

-- x or y is infinite: ix and iy are their high words
unfoldable pub infinite_of : Bool → Bool → ℕ → ℕ → Float
infinite_of xs ys ix iy =
    cond (eqb ix 0x7ff0_0000)
    (cond (eqb iy 0x7ff0_0000)
    (quadrant_of xs ys (pi_o_4 +ᶠ tiny) (neg pi_o_4 -ᶠ tiny) (three *ᶠ pi_o_4 +ᶠ tiny) (neg (three *ᶠ pi_o_4) -ᶠ tiny))
    (quadrant_of xs ys zero (minus_one *ᶠ zero) (pi +ᶠ tiny) (neg pi -ᶠ tiny))) (upright_of ys)

-- atan |y / x|, both finite and neither 0: π/2 if y is over 2 ^ 60 times x, and 0 if x is below 0 and over 2 ^ 60 times y
unfoldable pub quotient_of : Float → Float → Bool → ℕ → ℕ → Float
quotient_of y x xs ix iy =
    cond (leb (ix + 0x03d0_0000) iy) (pi_o_2 +ᶠ half *ᶠ pi_lo)
    (cond (xs && ltb (iy + 0x03c0_0000) ix) zero (atan_of (abs_of (y /ᶠ x))))

-- both finite and neither 0
abbrev pub finite_of : Bool → Bool → Float → Float
finite_of xs ys z = quadrant_of xs ys z (neg z) (pi -ᶠ (z -ᶠ pi_lo)) (z -ᶠ pi_lo -ᶠ pi)

unfoldable pub atan2_of : Float → Float → Float
atan2_of y x =
    let ix = high_of x in
    let iy = high_of y in
    let xs = is_negative_of x in
    let ys = is_negative_of y in
    cond (ne x x) nan
    (cond (ne y y) nan
    (cond (eq x one) (atan_of y)
    (cond (eq y zero) (level_of xs ys y)
    (cond (eq x zero) (upright_of ys)
    (cond (eqb ix 0x7ff0_0000) (infinite_of xs ys ix iy)
    (cond (eqb iy 0x7ff0_0000) (infinite_of xs ys ix iy)
    (finite_of xs ys (quotient_of y x xs ix iy))))))))
