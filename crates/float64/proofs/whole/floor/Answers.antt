use Rattle.prelude.proofs.Logic.{ap, ◌∙◌}
use Rattle.float64.specs.Whole.{floor_of}
use Rattle.float64.proofs.Parts.{neg_neg, neg_positive, floor_positive, still_zero}
use Rattle.float64.proofs.whole.floor.Goals as goal

pub returns-then-x : goal.returns-then-x
returns-then-x c = c.lower.ensures ∙ floor_positive c.args.x c.if-x.true

pub upper-requires : goal.upper-requires
upper-requires c = neg_positive c.args.x c.if-x-2.true

pub returns-then-x-2 : goal.returns-then-x-2
returns-then-x-2 c = c.upper.ensures ∙ ap floor_of (neg_neg c.args.x)

pub returns : goal.returns
returns c = (still_zero c.args.x c.if-x.false c.if-x-2.false).0
