-- The cases of `pageCallOf` in the code's order: a short scratch, a refused order, a read one.
use Rattle.prelude.proofs.Logic.{rules}
use Rattle.reports.proofs.ReportsLaws.{returned, taken}
use Rattle.pages.proofs.AnswerLaws.{called-short, called-read, called-refused}
use Rattle.pages.proofs.page.write_page.Goals as goal

pub returns-then-scratch-lt-ROW_CELLS : goal.returns-then-scratch-lt-ROW_CELLS
returns-then-scratch-lt-ROW_CELLS c =
    let both = called-short _ _ _ _ c.if-scratch-lt-ROW_CELLS.true _ _ c.new.ensures c.refused.ensures in record { value = both.0; scratch_after = both.1 }

pub write_read-requires : goal.write_read-requires
write_read-requires c = search (taken, rules)

pub returns-in-Ok : goal.returns-in-Ok
returns-in-Ok c =
    let both = called-read _ _ _ _ (search rules) _ (search returned) _ _ (c.write_read.ensures.value, c.write_read.ensures.scratch_after) in record { value = both.0; scratch_after = both.1 }

pub returns-in-Err : goal.returns-in-Err
returns-in-Err c =
    let both = called-refused _ _ _ _ (search rules) _ (search returned) _ c.refused-in-Err.ensures in record { value = both.0; scratch_after = both.1 }
