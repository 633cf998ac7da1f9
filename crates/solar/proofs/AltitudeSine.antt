-- The sine of the sun's altitude at sunrise and sunset, computed. Assumes nothing.
use Rattle.prelude.proofs.Logic.{◌≡◌, refl}
use lib.Ieee.{round, of_bits, add, sub, mul, div, neg, to_bits}
use Rattle.float64.specs.Ops.{bits, dec}
use Rattle.float64.specs.Words.{high_of}
use Rattle.fdlibm_trig.specs.KSin.{kernel_sin_of}
use Rattle.fdlibm_trig.specs.Trig.{sin_of}
use Rattle.unit.specs.Unit.{radians_of}
use Rattle.solar.specs.Hours.{solar_altitude}

pub altitude_sine : bits 0xbf8d_c930_e628_cb24 ≡ sin_of (radians_of solar_altitude)
unfolding sin_of kernel_sin_of high_of solar_altitude dec round of_bits add sub mul div neg to_bits
altitude_sine = refl
