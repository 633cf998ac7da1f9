-- The root's last digit rounds it.
use Rattle.prelude.proofs.Logic.{arith}
use Rattle.fdlibm_root.proofs.Squares.{rounded}
use Rattle.fdlibm_root.proofs.digits.by_digits.Goals as goal

pub returns : goal.returns
returns c = rounded c.args.m c.root.result _ c.requires.0 c.root.ensures.0 (omega arith)
