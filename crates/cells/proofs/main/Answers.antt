-- What the call wrote is within the buffer.
use Rattle.pages.proofs.ReportLaws.{pages-fit}
use Rattle.prelude.proofs.Logic.{sym, length-take-le}
use Rattle.cells.proofs.main.Goals as goal

pub slice_bounds-cells-end : goal.slice_bounds-cells-end
slice_bounds-cells-end c =
    let w = c.write_pages-length in
    pages-fit _ _ w.new.buffer w.result w.ensures.value w.auto.buffer

pub slice_bounds-write_all-end : goal.slice_bounds-write_all-end
slice_bounds-write_all-end c =
    let w = c.write_pages-length in
    sym (length-take-le _ _ (pages-fit _ _ w.new.buffer w.result w.ensures.value w.auto.buffer))
