-- This file need not be believed: the steps by which the code computes a sine and a cosine together. Trig's sincos_of says what they are.
use Rattle.std.specs.Prelude.{ℕ, ◌+◌, ◌%◌, Bool, Float}
use Rattle.fdlibm_trig.specs.declared.s_sincos.Both.{Both}
use Rattle.fdlibm_trig.specs.KSin.{kernel_sin_of}
use Rattle.fdlibm_trig.specs.KCos.{kernel_cos_of}
use Rattle.fdlibm_trig.specs.Trig.{quarter_turns_of}

abbrev pub kernels_of : Float → Float → Bool → Both
kernels_of x y tail = record { sin = kernel_sin_of x y tail; cos = kernel_cos_of x y }

abbrev pub both_turns_of : ℕ → Float → Float → Both
both_turns_of n y0 y1 = record { sin = quarter_turns_of n y0 y1; cos = quarter_turns_of ((n % 4 + 1) % 4) y0 y1 }
