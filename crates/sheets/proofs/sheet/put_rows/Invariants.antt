-- The suns are those of the row before, and the lines of the earlier rows are in the buffer, up to `end`.
use Rattle.sheets.proofs.Rolled.{Run}
use Rattle.sheets.proofs.sheet.put_rows.Given as goal

abbrev pub invariant-loop-row : goal.invariant-loop-row
invariant-loop-row l = Run l.order l.initial.buffer l.at l.buffer l.suns l.row l.end
