-- s_sin.c, s_cos.c and s_tan.c. "sin, cos and tan are NaN for arguments beyond 70 radians in size"; fdlibm goes on.
use Rattle.std.specs.Prelude.{ℕ, ◌+◌, ◌%◌, true, false, cond, leb, eqb, Float}
use Rattle.std.specs.Float.{nan}
use Rattle.std.specs.Float.Ieee.{neg, le}
use Rattle.float64.specs.Ops.{dec}
use Rattle.float64.specs.Sizes.{abs_of}
use Rattle.float64.specs.Words.{high_of}
use Rattle.fdlibm_trig.specs.declared.s_sincos.Both.{Both}
use Rattle.fdlibm_trig.specs.KSin.{kernel_sin_of}
use Rattle.fdlibm_trig.specs.KCos.{kernel_cos_of}
use Rattle.fdlibm_trig.specs.KTan.{kernel_tan_of, zero}
use Rattle.fdlibm_trig.specs.RemPio2.{rem_pio2_of}

abbrev pub seventy : Float
seventy = dec 70 0

-- the sine of n quarter turns and y0 + y1
unfoldable pub quarter_turns_of : ℕ → Float → Float → Float
quarter_turns_of n y0 y1 =
    cond (eqb n 0) (kernel_sin_of y0 y1 true)
    (cond (eqb n 1) (kernel_cos_of y0 y1)
    (cond (eqb n 2) (neg (kernel_sin_of y0 y1 true)) (neg (kernel_cos_of y0 y1))))

unfoldable pub sin_of : Float → Float
sin_of x =
    let p = rem_pio2_of x in
    cond (leb (high_of x) 0x3fe9_21fb) (kernel_sin_of x zero false) (cond (le (abs_of x) seventy) (quarter_turns_of p.n p.y0 p.y1) nan)

-- the cosine is the sine a quarter turn further
unfoldable pub cos_of : Float → Float
cos_of x =
    let p = rem_pio2_of x in
    cond (leb (high_of x) 0x3fe9_21fb) (kernel_cos_of x zero)
    (cond (le (abs_of x) seventy) (quarter_turns_of ((p.n % 4 + 1) % 4) p.y0 p.y1) nan)

unfoldable pub tan_of : Float → Float
tan_of x =
    let p = rem_pio2_of x in
    cond (leb (high_of x) 0x3fe9_21fb) (kernel_tan_of x zero false)
    (cond (le (abs_of x) seventy) (kernel_tan_of p.y0 p.y1 (eqb (p.n % 2) 1)) nan)

-- the sine and the cosine together
abbrev pub sincos_of : Float → Both
sincos_of x = record { sin = sin_of x; cos = cos_of x }
