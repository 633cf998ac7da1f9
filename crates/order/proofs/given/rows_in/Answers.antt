use Rattle.prelude.proofs.Logic.{eq-eqb, ne_eqb}
use Rattle.order.specs.Given.{rows_in}
use Rattle.order.proofs.given.rows_in.Goals as goal

pub returns-then-bytes-eq2 : goal.returns-then-bytes-eq2
unfolding rows_in
returns-then-bytes-eq2 c = simp (c.unsigned.ensures.value, eq-eqb _ _ c.if-bytes-eq2.true)

pub returns : goal.returns
unfolding rows_in
returns c = simp (c.byte.ensures.value, ne_eqb _ _ c.if-bytes-eq2.false)
