-- The size of the exact residue tells whether s or a neighbour is the nearest.
use Rattle.fdlibm_root.proofs.Certificate.{chosen}
use Rattle.fdlibm_root.proofs.certify.corrected.Goals as goal

pub returns-then-z-s-2 : goal.returns-then-z-s-2
returns-then-z-s-2 c = chosen c.args.m c.args.s c.in_ok-z.z c.in_ok-z.ensures.1 c.if-z-s.true c.if-z-s-2.true
