-- e_asin.c: the arcsine.
use Rattle.std.specs.Prelude.{ℕ, cond, ltb, leb, Float}
use Rattle.std.specs.Float.{nan}
use Rattle.std.specs.Float.Ieee.{neg, lt, eq}
use Rattle.float64.specs.Ops.{◌+ᶠ◌, ◌-ᶠ◌, ◌*ᶠ◌, ◌/ᶠ◌, bits}
use Rattle.float64.specs.Sizes.{abs_of}
use Rattle.float64.specs.Words.{high_of, low_cleared_of}
use Rattle.fdlibm_root.specs.Root.{sqrt_of}
use Rattle.fdlibm_arc.specs.Atan.{zero, one, two}

abbrev pub half : Float
half = bits 0x3fe0_0000_0000_0000

abbrev pub pio2_hi : Float
pio2_hi = bits 0x3ff9_21fb_5444_2d18

abbrev pub pio2_lo : Float
pio2_lo = bits 0x3c91_a626_3314_5c07

abbrev pub pio4_hi : Float
pio4_hi = bits 0x3fe9_21fb_5444_2d18

abbrev pub P0 : Float
P0 = bits 0x3fc5_5555_5555_5555

abbrev pub P1 : Float
P1 = bits 0xbfd4_d612_03eb_6f7d

abbrev pub P2 : Float
P2 = bits 0x3fc9_c155_0e88_4455

abbrev pub P3 : Float
P3 = bits 0xbfa4_8228_b568_8f3b

abbrev pub P4 : Float
P4 = bits 0x3f49_efe0_7501_b288

abbrev pub P5 : Float
P5 = bits 0x3f02_3de1_0dfd_f709

abbrev pub Q1 : Float
Q1 = bits 0xc003_3a27_1c8a_2d4b

abbrev pub Q2 : Float
Q2 = bits 0x4000_2ae5_9c59_8ac8

abbrev pub Q3 : Float
Q3 = bits 0xbfe6_066c_1b8d_0159

abbrev pub Q4 : Float
Q4 = bits 0x3fb3_b8c5_b12e_9282

-- p / q: (asin x - x) / x for t = x², at most 1/4
unfoldable pub ratio_of : Float → Float
ratio_of t =
    let p = t *ᶠ (P0 +ᶠ t *ᶠ (P1 +ᶠ t *ᶠ (P2 +ᶠ t *ᶠ (P3 +ᶠ t *ᶠ (P4 +ᶠ t *ᶠ P5))))) in
    let q = one +ᶠ t *ᶠ (Q1 +ᶠ t *ᶠ (Q2 +ᶠ t *ᶠ (Q3 +ᶠ t *ᶠ Q4))) in
    p /ᶠ q

-- asin x for an x from 1/2 to below 1: π/2 less twice the arcsine of the root of (1 - x) / 2. ix is x's high word
unfoldable pub asin_large_of : Float → ℕ → Float
asin_large_of x ix =
    let t = (one -ᶠ x) *ᶠ half in
    let r = ratio_of t in
    let s = sqrt_of t in
    let w = low_cleared_of s in
    let c = (t -ᶠ w *ᶠ w) /ᶠ (s +ᶠ w) in
    let p = two *ᶠ s *ᶠ r -ᶠ (pio2_lo -ᶠ two *ᶠ c) in
    let q = pio4_hi -ᶠ two *ᶠ w in
    cond (leb 0x3fef_3333 ix) (pio2_hi -ᶠ (two *ᶠ (s +ᶠ s *ᶠ r) -ᶠ pio2_lo)) (pio4_hi -ᶠ (p -ᶠ q))

-- below 2 ^ -27 it is x itself, and beyond 1 NaN
unfoldable pub asin_of : Float → Float
asin_of x =
    let ix = high_of x in
    cond (leb 0x3ff0_0000 ix)
    (cond (eq (abs_of x) one) (x *ᶠ pio2_hi +ᶠ x *ᶠ pio2_lo) nan)
    (cond (ltb ix 0x3fe0_0000)
    (cond (ltb ix 0x3e40_0000) x (x +ᶠ x *ᶠ ratio_of (x *ᶠ x)))
    (cond (lt x zero) (neg (asin_large_of (abs_of x) ix)) (asin_large_of (abs_of x) ix)))
