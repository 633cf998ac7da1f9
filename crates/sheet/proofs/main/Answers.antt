-- What the call wrote is within the buffer.
use Rattle.sheets.proofs.SheetLaws.{answer_fits}
use Rattle.prelude.proofs.Logic.{sym, length-take-le}
use Rattle.sheet.proofs.main.Goals as goal

pub slice_bounds-sheet-end : goal.slice_bounds-sheet-end
slice_bounds-sheet-end c =
    let w = c.write_sheet-length in
    answer_fits _ _ w.new.buffer w.result w.ensures.value w.auto.buffer

pub slice_bounds-write_all-end : goal.slice_bounds-write_all-end
slice_bounds-write_all-end c =
    let w = c.write_sheet-length in
    sym (length-take-le _ _ (answer_fits _ _ w.new.buffer w.result w.ensures.value w.auto.buffer))
