use Rattle.prelude.proofs.Logic.{eq-eqb, ne_eqb}
use Rattle.order.proofs.ranges.most_in.Goals as goal

pub returns-then-bytes-eq2 : goal.returns-then-bytes-eq2
returns-then-bytes-eq2 c = simp (eq-eqb _ _ c.if-bytes-eq2.true)

pub returns : goal.returns
returns c = simp (ne_eqb _ _ c.if-bytes-eq2.false)
