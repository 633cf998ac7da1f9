-- e_acos.c: the arccosine. Its p / q is the arcsine's.
use Rattle.std.specs.Prelude.{cond, ltb, leb, Float}
use Rattle.std.specs.Float.{nan}
use Rattle.std.specs.Float.Ieee.{lt, eq}
use Rattle.float64.specs.Ops.{◌+ᶠ◌, ◌-ᶠ◌, ◌*ᶠ◌, ◌/ᶠ◌, bits}
use Rattle.float64.specs.Sizes.{abs_of}
use Rattle.float64.specs.Words.{high_of, low_cleared_of}
use Rattle.fdlibm_root.specs.Root.{sqrt_of}
use Rattle.fdlibm_arc.specs.Atan.{zero, one, two}
use Rattle.fdlibm_arc.specs.Asin.{half, pio2_hi, pio2_lo, ratio_of}

abbrev pub pi : Float
pi = bits 0x4009_21fb_5444_2d18

-- x at most -1/2: π less twice the arcsine of the root of (1 + x) / 2
unfoldable pub acos_low_of : Float → Float
acos_low_of x =
    let z = (one +ᶠ x) *ᶠ half in
    let s = sqrt_of z in
    let w = ratio_of z *ᶠ s -ᶠ pio2_lo in
    pi -ᶠ two *ᶠ (s +ᶠ w)

-- x from 1/2 on: twice the arcsine of the root of (1 - x) / 2
unfoldable pub acos_high_of : Float → Float
acos_high_of x =
    let z = (one -ᶠ x) *ᶠ half in
    let s = sqrt_of z in
    let df = low_cleared_of s in
    let c = (z -ᶠ df *ᶠ df) /ᶠ (s +ᶠ df) in
    let w = ratio_of z *ᶠ s +ᶠ c in
    two *ᶠ (df +ᶠ w)

-- up to 2 ^ -57 it is π/2, and beyond 1 NaN
unfoldable pub acos_of : Float → Float
acos_of x =
    let ix = high_of x in
    cond (leb 0x3ff0_0000 ix)
    (cond (eq (abs_of x) one) (cond (lt x zero) (pi +ᶠ two *ᶠ pio2_lo) zero) nan)
    (cond (ltb ix 0x3fe0_0000)
    (cond (leb ix 0x3c60_0000) (pio2_hi +ᶠ pio2_lo) (pio2_hi -ᶠ (x -ᶠ (pio2_lo -ᶠ x *ᶠ ratio_of (x *ᶠ x)))))
    (cond (lt x zero) (acos_low_of x) (acos_high_of x)))
