-- s_atan.c: the arctangent.
use Rattle.std.specs.Prelude.{ℕ, cond, ltb, leb, Float}
use Rattle.std.specs.Float.Ieee.{neg, lt, ne}
use Rattle.float64.specs.Ops.{◌+ᶠ◌, ◌-ᶠ◌, ◌*ᶠ◌, ◌/ᶠ◌, bits}
use Rattle.float64.specs.Sizes.{abs_of}
use Rattle.float64.specs.Words.{high_of}

abbrev pub zero : Float
zero = bits 0

abbrev pub one : Float
one = bits 0x3ff0_0000_0000_0000

abbrev pub onehalf : Float
onehalf = bits 0x3ff8_0000_0000_0000

abbrev pub two : Float
two = bits 0x4000_0000_0000_0000

abbrev pub minus_one : Float
minus_one = bits 0xbff0_0000_0000_0000

-- atanhi and atanlo: the arctangents of 1/2, 1, 3/2 and ∞
abbrev pub hi0 : Float
hi0 = bits 0x3fdd_ac67_0561_bb4f

abbrev pub hi1 : Float
hi1 = bits 0x3fe9_21fb_5444_2d18

abbrev pub hi2 : Float
hi2 = bits 0x3fef_730b_d281_f69b

abbrev pub hi3 : Float
hi3 = bits 0x3ff9_21fb_5444_2d18

abbrev pub lo0 : Float
lo0 = bits 0x3c7a_2b7f_222f_65e2

abbrev pub lo1 : Float
lo1 = bits 0x3c81_a626_3314_5c07

abbrev pub lo2 : Float
lo2 = bits 0x3c70_0788_7af0_cbbd

abbrev pub lo3 : Float
lo3 = bits 0x3c91_a626_3314_5c07

-- aT
abbrev pub A0 : Float
A0 = bits 0x3fd5_5555_5555_550d

abbrev pub A1 : Float
A1 = bits 0xbfc9_9999_9998_ebc4

abbrev pub A2 : Float
A2 = bits 0x3fc2_4924_9200_83ff

abbrev pub A3 : Float
A3 = bits 0xbfbc_71c6_fe23_1671

abbrev pub A4 : Float
A4 = bits 0x3fb7_45cd_c54c_206e

abbrev pub A5 : Float
A5 = bits 0xbfb3_b0f2_af74_9a6d

abbrev pub A6 : Float
A6 = bits 0x3fb1_0d66_a0d0_3d51

abbrev pub A7 : Float
A7 = bits 0xbfad_de2d_52de_fd9a

abbrev pub A8 : Float
A8 = bits 0x3fa9_7b4b_2476_0deb

abbrev pub A9 : Float
A9 = bits 0xbfa2_b444_2c6a_6c2f

abbrev pub A10 : Float
A10 = bits 0x3f90_ad3a_e322_da11

-- x - atan x, with separate sums for the even and the odd coefficients
unfoldable pub atan_rest_of : Float → Float
atan_rest_of x =
    let z = x *ᶠ x in
    let w = z *ᶠ z in
    let s1 = z *ᶠ (A0 +ᶠ w *ᶠ (A2 +ᶠ w *ᶠ (A4 +ᶠ w *ᶠ (A6 +ᶠ w *ᶠ (A8 +ᶠ w *ᶠ A10))))) in
    let s2 = w *ᶠ (A1 +ᶠ w *ᶠ (A3 +ᶠ w *ᶠ (A5 +ᶠ w *ᶠ (A7 +ᶠ w *ᶠ A9)))) in
    x *ᶠ (s1 +ᶠ s2)

-- hi + lo + atan x
abbrev pub atan_from_of : Float → Float → Float → Float
atan_from_of hi lo x = hi -ᶠ (atan_rest_of x -ᶠ lo -ᶠ x)

-- the arctangent of a t from 7/16 on, by that of 1/2, 1, 3/2 or ∞; ix is t's high word
unfoldable pub atan_large_of : Float → ℕ → Float
atan_large_of t ix =
    cond (ltb ix 0x3ff3_0000)
    (cond (ltb ix 0x3fe6_0000)
    (atan_from_of hi0 lo0 ((two *ᶠ t -ᶠ one) /ᶠ (two +ᶠ t)))
    (atan_from_of hi1 lo1 ((t -ᶠ one) /ᶠ (t +ᶠ one))))
    (cond (ltb ix 0x4003_8000)
    (atan_from_of hi2 lo2 ((t -ᶠ onehalf) /ᶠ (one +ᶠ onehalf *ᶠ t)))
    (atan_from_of hi3 lo3 (minus_one /ᶠ t)))

-- from 2 ^ 66 on it is ±π/2, and below 2 ^ -29 x itself
unfoldable pub atan_of : Float → Float
atan_of x =
    let ix = high_of x in
    cond (leb 0x4410_0000 ix)
    (cond (ne x x) (x +ᶠ x) (cond (lt x zero) (neg hi3 -ᶠ lo3) (hi3 +ᶠ lo3)))
    (cond (ltb ix 0x3fdc_0000)
    (cond (ltb ix 0x3e20_0000) x (x -ᶠ atan_rest_of x))
    (cond (lt x zero) (neg (atan_large_of (abs_of x) ix)) (atan_large_of (abs_of x) ix)))
