-- The first row's suns give the date's own day.
use Rattle.prelude.proofs.Logic.{◌∙◌}
use Rattle.schedule.proofs.RowSunsLaws.{first_row}
use Rattle.days.proofs.day.work_date.Goals as goal

pub returns : goal.returns
returns c = simp (c.work.ensures, c.new.ensures) (first_row _ _)
