-- The loop's invariant: with the rows that are left, the window becomes the definition's.
use Rattle.std.specs.Prelude.{Some}
use Rattle.weeks.specs.Kept.{minute_in_list}
use Rattle.weeks.proofs.ReportLaws.{Looking}
use Rattle.weeks.proofs.window.window_from.Given as goal

abbrev pub invariant-loop-row : goal.invariant-loop-row
invariant-loop-row l = Looking (minute_in_list l.minutes) l.first (Some l.window) l.row
