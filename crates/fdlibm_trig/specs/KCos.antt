-- k_cos.c: the cosine on [-π/4, π/4].
use Rattle.std.specs.Prelude.{ℕ, ◌-◌, ◌*◌, ◌^◌, cond, ltb, Float}
use Rattle.float64.specs.Ops.{◌+ᶠ◌, ◌-ᶠ◌, ◌*ᶠ◌, bits}
use Rattle.float64.specs.Words.{high_of}
use Rattle.fdlibm_trig.specs.KSin.{half}

abbrev pub one : Float
one = bits 0x3ff0_0000_0000_0000

abbrev pub C1 : Float
C1 = bits 0x3fa5_5555_5555_554c

abbrev pub C2 : Float
C2 = bits 0xbf56_c16c_16c1_5177

abbrev pub C3 : Float
C3 = bits 0x3efa_01a0_19cb_1590

abbrev pub C4 : Float
C4 = bits 0xbe92_7e4f_809c_52ad

abbrev pub C5 : Float
C5 = bits 0x3e21_ee9e_bdb4_b1c4

abbrev pub C6 : Float
C6 = bits 0xbda8_fae9_be88_38d4

-- qx for the high word ix of |x|: 0.28125 if |x| is above 0.78125, else |x| / 4 with its low word cleared
unfoldable pub quarter_of : ℕ → Float
quarter_of ix = cond (ltb 0x3fe9_0000 ix) (bits 0x3fd2_0000_0000_0000) (bits ((ix - 0x0020_0000) * 2 ^ 32))

-- cos (x + y) for the tail y of x. Below 2 ^ -27 it is 1; from 0.3 on qx is first subtracted from 1 and from x² / 2
unfoldable pub kernel_cos_of : Float → Float → Float
kernel_cos_of x y =
    let ix = high_of x in
    let z = x *ᶠ x in
    let r = z *ᶠ (C1 +ᶠ z *ᶠ (C2 +ᶠ z *ᶠ (C3 +ᶠ z *ᶠ (C4 +ᶠ z *ᶠ (C5 +ᶠ z *ᶠ C6))))) in
    let qx = quarter_of ix in
    cond (ltb ix 0x3e40_0000) one
    (cond (ltb ix 0x3fd3_3333)
    (one -ᶠ (half *ᶠ z -ᶠ (z *ᶠ r -ᶠ x *ᶠ y)))
    (one -ᶠ qx -ᶠ (half *ᶠ z -ᶠ qx -ᶠ (z *ᶠ r -ᶠ x *ᶠ y))))
