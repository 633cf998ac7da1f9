use Rattle.prelude.proofs.Ieee.{fits, binary64, passes}
use Rattle.float64.proofs.Parts.{still_far}
use Rattle.float64.proofs.Steps.{half_up_at}
use Rattle.float64.proofs.whole.half_up.Goals as goal

pub lower-k-requires : goal.lower-k-requires
lower-k-requires c = c.requires

pub returns-then-x : goal.returns-then-x
returns-then-x c =
    let b = c.before.before.before in let x = b.args.x in
    half_up_at c.lower-k.result x c.lower-k.ensures (passes (fits binary64 x) b.well_formed.0.1) b.requires
    c.if-x.true

pub returns-else-x : goal.returns-else-x
returns-else-x c =
    let b = c.before in let x = b.args.x in
    (still_far x (passes (fits binary64 x) b.well_formed.0.1) b.requires c.if-x.false).0.2
