use Rattle.prelude.proofs.Logic.{ap, ◌∙◌}
use Rattle.prelude.proofs.Ieee.{neg}
use Rattle.float64.proofs.Parts.{neg_neg, neg_positive, trunc_odd, still_zero}
use Rattle.float64.proofs.whole.trunc.Goals as goal

pub returns-then-x : goal.returns-then-x
returns-then-x c = c.lower.ensures

pub lower-requires-then-x-2 : goal.lower-requires-then-x-2
lower-requires-then-x-2 c = neg_positive c.args.x c.if-x-2.true

pub returns-then-x-2 : goal.returns-then-x-2
returns-then-x-2 c =
    let x = c.args.x in
    ap neg (c.lower-then-x-2.ensures ∙ trunc_odd x) ∙ neg_neg _

pub returns : goal.returns
returns c = (still_zero c.args.x c.if-x.false c.if-x-2.false).1
