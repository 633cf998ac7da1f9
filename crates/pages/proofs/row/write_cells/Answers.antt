-- The cases of `cellsCallOf` in the code's order: a short buffer, a refused order, a row that it lacks, a row.
use Rattle.prelude.proofs.Logic.{rules}
use Rattle.reports.proofs.ReportsLaws.{returned, taken}
use Rattle.pages.proofs.AnswerLaws.{called-short, called-read, called-refused}
use Rattle.pages.proofs.row.write_cells.Goals as goal

pub returns-then-buffer-lt-ROW_CELLS : goal.returns-then-buffer-lt-ROW_CELLS
returns-then-buffer-lt-ROW_CELLS c =
    let both = called-short _ _ _ _ c.if-buffer-lt-ROW_CELLS.true _ _ c.new.ensures c.refused.ensures in record { value = both.0; buffer_after = both.1 }

pub write_read-requires : goal.write_read-requires
write_read-requires c = search (taken, rules)

pub returns-in-Ok : goal.returns-in-Ok
returns-in-Ok c =
    let both = called-read _ _ _ _ (search rules) _ (search returned) _ _ (c.write_read.ensures.value, c.write_read.ensures.buffer_after) in record { value = both.0; buffer_after = both.1 }

pub returns-in-Err : goal.returns-in-Err
returns-in-Err c =
    let both = called-refused _ _ _ _ (search rules) _ (search returned) _ c.refused-in-Err.ensures in record { value = both.0; buffer_after = both.1 }
