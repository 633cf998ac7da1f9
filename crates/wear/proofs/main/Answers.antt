-- What the call wrote is within the buffer.
use Rattle.pages.proofs.ReportLaws.{wear-fits}
use Rattle.prelude.proofs.Logic.{sym, length-take-le}
use Rattle.wear.proofs.main.Goals as goal

pub slice_bounds-report-end : goal.slice_bounds-report-end
slice_bounds-report-end c =
    let w = c.write_wear-length in
    wear-fits _ _ w.new.buffer w.result w.ensures.value w.auto.buffer

pub slice_bounds-write_all-end : goal.slice_bounds-write_all-end
slice_bounds-write_all-end c =
    let w = c.write_wear-length in
    sym (length-take-le _ _ (wear-fits _ _ w.new.buffer w.result w.ensures.value w.auto.buffer))
