-- k_sin.c: the sine on [-π/4, π/4].
use Rattle.std.specs.Prelude.{Bool, cond, ltb, Float}
use Rattle.float64.specs.Ops.{◌+ᶠ◌, ◌-ᶠ◌, ◌*ᶠ◌, bits}
use Rattle.float64.specs.Words.{high_of}

abbrev pub half : Float
half = bits 0x3fe0_0000_0000_0000

abbrev pub S1 : Float
S1 = bits 0xbfc5_5555_5555_5549

abbrev pub S2 : Float
S2 = bits 0x3f81_1111_1110_f8a6

abbrev pub S3 : Float
S3 = bits 0xbf2a_01a0_19c1_61d5

abbrev pub S4 : Float
S4 = bits 0x3ec7_1de3_57b1_fe7d

abbrev pub S5 : Float
S5 = bits 0xbe5a_e5e6_8a2b_9ceb

abbrev pub S6 : Float
S6 = bits 0x3de5_d93a_5acf_d57c

-- sin (x + y) for the tail y of x. `tail` (iy) says whether there is one. Below 2 ^ -27 it is x itself
unfoldable pub kernel_sin_of : Float → Float → Bool → Float
kernel_sin_of x y tail =
    let z = x *ᶠ x in
    let v = z *ᶠ x in
    let r = S2 +ᶠ z *ᶠ (S3 +ᶠ z *ᶠ (S4 +ᶠ z *ᶠ (S5 +ᶠ z *ᶠ S6))) in
    cond (ltb (high_of x) 0x3e40_0000) x
    (cond tail
    (x -ᶠ (z *ᶠ (half *ᶠ y -ᶠ v *ᶠ r) -ᶠ y -ᶠ v *ᶠ S1))
    (x +ᶠ v *ᶠ (S1 +ᶠ z *ᶠ r)))
