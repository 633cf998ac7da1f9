use Rattle.order.specs.Ranges.{ramadan_rows}
use Rattle.order.proofs.ranges.ramadan_rows.Goals as goal

pub returns-then-not-set : goal.returns-then-not-set
unfolding ramadan_rows
returns-then-not-set c = simp c.if-not-set.true

pub returns-else-not-set : goal.returns-else-not-set
unfolding ramadan_rows
returns-else-not-set c = simp (c.rows_in.ensures, c.if-not-set.false)
