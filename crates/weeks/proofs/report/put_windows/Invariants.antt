-- The lines of the windows before `first` are at the buffer's front.
use Rattle.prelude.proofs.Logic.{length}
use Rattle.weeks.specs.Kept.{minute_in_list}
use Rattle.weeks.proofs.ReportLaws.{Lined}
use Rattle.weeks.proofs.report.put_windows.Given as goal

abbrev pub invariant-loop-first : goal.invariant-loop-first
invariant-loop-first l = Lined (minute_in_list l.minutes) (length l.minutes) l.initial.buffer l.buffer l.first l.end
