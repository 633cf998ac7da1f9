-- The suns are those of the row before, and the dots of the earlier rows are counted. These rows are in the buffer if it has room for all.
use Rattle.pages.proofs.Rolled.{Run}
use Rattle.pages.proofs.rows.put_rows.Given as goal

abbrev pub invariant-loop-next : goal.invariant-loop-next
invariant-loop-next l = Run l.order l.row l.end l.initial.buffer l.buffer l.suns l.next l.dots
