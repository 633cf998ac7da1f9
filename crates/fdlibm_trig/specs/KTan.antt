-- k_tan.c: the tangent on [-π/4, π/4], or -1 / tan if `odd` (iy = -1).
use Rattle.std.specs.Prelude.{Bool, cond, ltb, leb, Float}
use Rattle.std.specs.Float.Ieee.{neg, eq, lt}
use Rattle.float64.specs.Ops.{◌+ᶠ◌, ◌-ᶠ◌, ◌*ᶠ◌, ◌/ᶠ◌, bits}
use Rattle.float64.specs.Sizes.{abs_of}
use Rattle.float64.specs.Words.{high_of, low_cleared_of}
use Rattle.fdlibm_trig.specs.KCos.{one}

abbrev pub zero : Float
zero = bits 0

abbrev pub two : Float
two = bits 0x4000_0000_0000_0000

abbrev pub minus_one : Float
minus_one = bits 0xbff0_0000_0000_0000

abbrev pub pio4 : Float
pio4 = bits 0x3fe9_21fb_5444_2d18

abbrev pub pio4lo : Float
pio4lo = bits 0x3c81_a626_3314_5c07

abbrev pub T0 : Float
T0 = bits 0x3fd5_5555_5555_5563

abbrev pub T1 : Float
T1 = bits 0x3fc1_1111_1110_fe7a

abbrev pub T2 : Float
T2 = bits 0x3fab_a1ba_1bb3_41fe

abbrev pub T3 : Float
T3 = bits 0x3f96_64f4_8406_d637

abbrev pub T4 : Float
T4 = bits 0x3f82_26e3_e96e_8493

abbrev pub T5 : Float
T5 = bits 0x3f6d_6d22_c956_0328

abbrev pub T6 : Float
T6 = bits 0x3f57_dbc8_fee0_8315

abbrev pub T7 : Float
T7 = bits 0x3f43_44d8_f2f2_6501

abbrev pub T8 : Float
T8 = bits 0x3f30_26f7_1a8d_1068

abbrev pub T9 : Float
T9 = bits 0x3f14_7e88_a037_92a6

abbrev pub T10 : Float
T10 = bits 0x3f12_b80f_32f0_a7e9

abbrev pub T11 : Float
T11 = bits 0xbef3_75cb_db60_5373

abbrev pub T12 : Float
T12 = bits 0x3efb_2a70_74bf_7ad4

-- tan (x + y) - x, with separate sums for the odd and the even coefficients
unfoldable pub tan_rest_of : Float → Float → Float
tan_rest_of x y =
    let z = x *ᶠ x in
    let w = z *ᶠ z in
    let r = T1 +ᶠ w *ᶠ (T3 +ᶠ w *ᶠ (T5 +ᶠ w *ᶠ (T7 +ᶠ w *ᶠ (T9 +ᶠ w *ᶠ T11)))) in
    let v = z *ᶠ (T2 +ᶠ w *ᶠ (T4 +ᶠ w *ᶠ (T6 +ᶠ w *ᶠ (T8 +ᶠ w *ᶠ (T10 +ᶠ w *ᶠ T12))))) in
    let s = z *ᶠ x in
    y +ᶠ z *ᶠ (s *ᶠ (r +ᶠ v) +ᶠ y) +ᶠ T0 *ᶠ s

-- -1 / w for w = x + r, with the error of the division corrected
unfoldable pub reciprocal_of : Float → Float → Float → Float
reciprocal_of w x r =
    let z = low_cleared_of w in
    let v = r -ᶠ (z -ᶠ x) in
    let a = minus_one /ᶠ w in
    let t = low_cleared_of a in
    let s = one +ᶠ t *ᶠ z in
    t +ᶠ a *ᶠ (s +ᶠ t *ᶠ v)

-- |x| below 2 ^ -28
unfoldable pub tan_small_of : Float → Float → Bool → Float
tan_small_of x y odd = cond odd (cond (eq x zero) (one /ᶠ abs_of x) (reciprocal_of (x +ᶠ y) x y)) x

-- |x| below 0.6744
unfoldable pub tan_middle_of : Float → Float → Bool → Float
tan_middle_of x y odd =
    let r = tan_rest_of x y in
    cond odd (reciprocal_of (x +ᶠ r) x r) (x +ᶠ r)

-- x from 0.6744 on, by π/4 - x; v is 1, or -1 if odd
unfoldable pub tan_large_of : Float → Float → Float → Float
tan_large_of x y v =
    let u = pio4 -ᶠ x +ᶠ (pio4lo -ᶠ y) in
    let r = tan_rest_of u zero in
    let w = u +ᶠ r in
    v -ᶠ two *ᶠ (u -ᶠ (w *ᶠ w /ᶠ (w +ᶠ v) -ᶠ r))

unfoldable pub kernel_tan_of : Float → Float → Bool → Float
kernel_tan_of x y odd =
    let ix = high_of x in
    let v = cond odd minus_one one in
    cond (ltb ix 0x3e30_0000) (tan_small_of x y odd)
    (cond (leb 0x3fe5_9428 ix)
    (cond (lt x zero) (minus_one *ᶠ tan_large_of (neg x) (neg y) v) (one *ᶠ tan_large_of x y v))
    (tan_middle_of x y odd))
