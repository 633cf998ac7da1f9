-- Before a row the suns are those of the row before it (of row 0 at first), the minutes of the earlier rows are kept, and the rest stays.
use Rattle.weeks.proofs.MinuteLaws.{Run}
use Rattle.weeks.proofs.minutes.work_minutes.Given as goal

abbrev pub invariant-loop-row : goal.invariant-loop-row
invariant-loop-row l = Run l.order l.initial.minutes l.minutes l.suns l.row
