use Rattle.prelude.proofs.Logic.{ap}
use Rattle.schedule.proofs.RowSunsLaws.{first_row}
use Rattle.probes.specs.Days.{probe_day_of}
use Rattle.probes.proofs.worked.probe_row.Goals as goal

pub returns : goal.returns
returns c =
    let at-new2 = c.before.before in
    let at_new = at-new2.before.before in
    simp (c.answered.ensures, c.work.ensures, at-new2.new.ensures, at-new2.setting-setting.ensures, at_new.new-date.ensures)
    (ap probe_day_of (first_row _ _))
