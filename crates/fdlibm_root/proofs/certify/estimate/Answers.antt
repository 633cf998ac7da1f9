-- No pattern here is a NaN's.
use Rattle.prelude.proofs.Logic.{arith}
use Rattle.fdlibm_root.proofs.NoNan.{no_nan_bits}
use Rattle.fdlibm_root.proofs.certify.estimate.Goals as goal

pub float_from_bits-y : goal.float_from_bits-y
float_from_bits-y c = no_nan_bits _ (omega arith)

pub float_from_bits-g : goal.float_from_bits-g
float_from_bits-g c = no_nan_bits _ (omega arith)
