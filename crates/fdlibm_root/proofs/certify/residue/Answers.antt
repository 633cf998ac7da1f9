-- The difference is the one that the comment of `residue` derives.
use Rattle.prelude.proofs.Logic.{arith}
use Rattle.fdlibm_root.proofs.Certificate.{residue-is}
use Rattle.fdlibm_root.proofs.certify.residue.Goals as goal

pub returns-then-under-over : goal.returns-then-under-over
returns-then-under-over c =
    let e = c.in_ok-e.ensures in
    (omega arith, residue-is c.args.m c.args.s c.in_ok-e.e e.0 e.1 c.if-under-over.true)
