use Rattle.prelude.proofs.Logic.{refl}
use Rattle.calendar.proofs.YearSteps.{year_above, guess-right, guess-over}
use Rattle.calendar.proofs.counts.year_of.Goals as goal

pub overflow_sub-result : goal.overflow_sub-result
overflow_sub-result c = year_above _ c.args.n (rw c.days_before_year.ensures at c.if-days_before_year-n.false)

pub returns-then-days_before_year-n : goal.returns-then-days_before_year-n
returns-then-days_before_year-n c = guess-right c.args.n _ refl (rw c.days_before_year.ensures at c.if-days_before_year-n.true)

pub returns-else-days_before_year-n : goal.returns-else-days_before_year-n
returns-else-days_before_year-n c = guess-over c.args.n _ refl (rw c.days_before_year.ensures at c.if-days_before_year-n.false)
