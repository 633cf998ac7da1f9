use Rattle.pages.proofs.AnswerLaws.{rows_refused, rows_answered, row_there, row_lacking, row_one}
use Rattle.pages.proofs.row.write_read.Goals as goal

pub returns-then-row-order : goal.returns-then-row-order
returns-then-row-order c =
    let h = c.if-row-order.true in
    let put = c.write_rows.ensures in
    let both = rows_answered _ _ _ _ _ (row_one _ _ h) (row_there _ _ h) put.value put.buffer_after in record { value = both.0; buffer_after = both.1 }

pub returns : goal.returns
returns c =
    let both = rows_refused _ _ _ _ (row_lacking _ _ c.if-row-order.false) c.lacks_row.ensures c.refused.ensures in record { value = both.0; buffer_after = both.1 }
