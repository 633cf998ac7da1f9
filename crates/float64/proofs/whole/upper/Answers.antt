use Rattle.prelude.proofs.Ieee.{passes}
use Rattle.float64.proofs.Parts.{still_far}
use Rattle.float64.proofs.Steps.{upper_at}
use Rattle.float64.proofs.whole.upper.Goals as goal

pub returns-then-x : goal.returns-then-x
returns-then-x c = let b = c.before.before in upper_at _ (passes _ b.well_formed.0.1) b.requires c.if-x.true

pub returns-else-x : goal.returns-else-x
returns-else-x c = let b = c.before in (still_far _ (passes _ b.well_formed.0.1) b.requires c.if-x.false).1.0
