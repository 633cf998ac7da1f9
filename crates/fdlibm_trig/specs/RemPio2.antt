-- e_rem_pio2.c up to its medium case: x less the nearest multiple n of π/2, as y0 + y1. n is given by its remainder by 4.
use Rattle.std.specs.Prelude.{ℕ, ◌+◌, ◌-◌, ◌*◌, ◌/◌, ◌%◌, ◌^◌, cond, not, ◌&&◌, List, [], ◌∷◌, get_or, ltb, leb, eqb, pos, Float}
use Rattle.std.specs.Float.{binary64}
use Rattle.std.specs.Float.Ieee.{to_unsigned, of_int, neg, lt}
use Rattle.float64.specs.Ops.{◌+ᶠ◌, ◌-ᶠ◌, ◌*ᶠ◌, bits}
use Rattle.float64.specs.Sizes.{abs_of}
use Rattle.float64.specs.Words.{high_of}
use Rattle.fdlibm_trig.specs.declared.e_rem_pio2.Parts.{Parts}
use Rattle.fdlibm_trig.specs.declared.e_rem_pio2.Reduced.{Reduced}
use Rattle.fdlibm_trig.specs.KSin.{half}
use Rattle.fdlibm_trig.specs.KTan.{zero}

abbrev pub invpio2 : Float
invpio2 = bits 0x3fe4_5f30_6dc9_c883

-- the first, second and third 33 bits of π/2; a name with t is the tail: what is left of π/2 after these bits
abbrev pub pio2_1 : Float
pio2_1 = bits 0x3ff9_21fb_5440_0000

abbrev pub pio2_1t : Float
pio2_1t = bits 0x3dd0_b461_1a62_6331

abbrev pub pio2_2 : Float
pio2_2 = bits 0x3dd0_b461_1a60_0000

abbrev pub pio2_2t : Float
pio2_2t = bits 0x3ba3_198a_2e03_7073

abbrev pub pio2_3 : Float
pio2_3 = bits 0x3ba3_198a_2e00_0000

abbrev pub pio2_3t : Float
pio2_3t = bits 0x397b_839a_2520_49c1

-- npio2_hw: the high word of n * π/2, for n from 1 to 32
unfoldable pub npio2 : List ℕ
npio2 =
    0x3ff9_21fb ∷ 0x4009_21fb ∷ 0x4012_d97c ∷ 0x4019_21fb ∷ 0x401f_6a7a ∷ 0x4022_d97c ∷ 0x4025_fdbb ∷ 0x4029_21fb ∷
    0x402c_463a ∷ 0x402f_6a7a ∷ 0x4031_475c ∷ 0x4032_d97c ∷ 0x4034_6b9c ∷ 0x4035_fdbb ∷ 0x4037_8fdb ∷ 0x4039_21fb ∷
    0x403a_b41b ∷ 0x403c_463a ∷ 0x403d_d85a ∷ 0x403f_6a7a ∷ 0x4040_7e4c ∷ 0x4041_475c ∷ 0x4042_106c ∷ 0x4042_d97c ∷
    0x4043_a28c ∷ 0x4044_6b9c ∷ 0x4045_34ac ∷ 0x4045_fdbb ∷ 0x4046_c6cb ∷ 0x4047_8fdb ∷ 0x4048_58eb ∷ 0x4049_21fb ∷ []

-- npio2_hw[n - 1]; 0 beyond the table
unfoldable pub npio2_of : ℕ → ℕ
npio2_of n = get_or npio2 (n - 1) 0

-- the exponent field: __HI(y) >> 20 & 0x7ff
abbrev pub exponent_of : Float → ℕ
exponent_of y = high_of y / 2 ^ 20

-- y0 = r - w and the tail y1, for n quarter turns
abbrev pub less_of : ℕ → Parts → Reduced
less_of n p =
    let y0 = p.r -ᶠ p.w in
    record { n = n; y0 = y0; y1 = p.r -ᶠ y0 -ᶠ p.w }

-- y0 = r + w and the tail y1: the same if x is negative
abbrev pub more_of : ℕ → Parts → Reduced
more_of n p =
    let y0 = p.r +ᶠ p.w in
    record { n = n; y0 = y0; y1 = p.r -ᶠ y0 +ᶠ p.w }

-- one iteration more, with the next 33 bits of π/2, a, and its tail b
abbrev pub iteration_of : Float → Float → Float → Float → Parts
iteration_of t k a b =
    let w = k *ᶠ a in
    let r = t -ᶠ w in
    record { r = r; w = k *ᶠ b -ᶠ (t -ᶠ r -ᶠ w) }

-- t less k * π/2, where j is the field of t's exponent: j less that of the difference tells how many bits cancelled.
-- The first iteration is good to 85 bits, the second to 118, the third to 151.
unfoldable pub refine_of : Float → ℕ → Float → Parts
refine_of k j t =
    let first : Parts = record { r = t -ᶠ k *ᶠ pio2_1; w = k *ᶠ pio2_1t } in
    let second = iteration_of first.r k pio2_2 pio2_2t in
    let third = iteration_of second.r k pio2_3 pio2_3t in
    cond (ltb (exponent_of (first.r -ᶠ first.w) + 16) j)
    (cond (ltb (exponent_of (second.r -ᶠ second.w) + 49) j) third second) first

-- further iterations are considered for n from 32 on, and for smaller n only if t's high word is that of n * π/2
unfoldable pub difference_of : Float → ℕ → ℕ → Parts
difference_of t ix n =
    let k = of_int binary64 (pos n) in
    cond (ltb n 32 && not (eqb ix (npio2_of n)))
    (record { r = t -ᶠ k *ᶠ pio2_1; w = k *ᶠ pio2_1t })
    (refine_of k (ix / 2 ^ 20) t)

-- the medium case, for t = |x|
abbrev pub medium_of : Float → ℕ → Reduced
medium_of t ix =
    let n = to_unsigned 32 (t *ᶠ invpio2 +ᶠ half) in
    less_of (n % 4) (difference_of t ix n)

-- the same for -t: -n quarter turns
abbrev pub opposite_of : Reduced → Reduced
opposite_of p = record { n = p.n % 4 * 3 % 4; y0 = neg p.y0; y1 = neg p.y1 }

-- |x| < 3π/4, x positive: x - π/2, with more bits of π if x is near it
unfoldable pub near_of : Float → ℕ → Parts
near_of x ix =
    cond (eqb ix 0x3ff9_21fb) (record { r = x -ᶠ pio2_1 -ᶠ pio2_2; w = pio2_2t })
    (record { r = x -ᶠ pio2_1; w = pio2_1t })

-- the same, x negative: x + π/2
unfoldable pub near_negative_of : Float → ℕ → Parts
near_negative_of x ix =
    cond (eqb ix 0x3ff9_21fb) (record { r = x +ᶠ pio2_1 +ᶠ pio2_2; w = pio2_2t })
    (record { r = x +ᶠ pio2_1; w = pio2_1t })

-- __ieee754_rem_pio2
unfoldable pub rem_pio2_of : Float → Reduced
rem_pio2_of x =
    let ix = high_of x in
    let negative = lt x zero in
    cond (leb ix 0x3fe9_21fb) (record { n = 0; y0 = x; y1 = zero })
    (cond (ltb ix 0x4002_d97c)
    (cond negative (more_of 3 (near_negative_of x ix)) (less_of 1 (near_of x ix)))
    (cond negative (opposite_of (medium_of (abs_of x) ix)) (medium_of (abs_of x) ix)))
