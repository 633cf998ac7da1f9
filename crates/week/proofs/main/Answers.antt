-- What the call wrote is within the buffer.
use Rattle.weeks.proofs.PrintedLaws.{week_fits}
use Rattle.prelude.proofs.Logic.{sym, length-take-le}
use Rattle.week.proofs.main.Goals as goal

pub slice_bounds-report-end : goal.slice_bounds-report-end
slice_bounds-report-end c =
    let w = c.write_week-length in
    week_fits _ _ w.new.buffer w.result w.ensures.value w.auto.buffer

pub slice_bounds-write_all-end : goal.slice_bounds-write_all-end
slice_bounds-write_all-end c =
    let w = c.write_week-length in
    sym (length-take-le _ _ (week_fits _ _ w.new.buffer w.result w.ensures.value w.auto.buffer))
