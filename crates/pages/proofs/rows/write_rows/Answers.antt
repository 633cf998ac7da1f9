use Rattle.prelude.proofs.Logic.{arith}
use Rattle.pages.proofs.AnswerLaws.{rows_counted}
use Rattle.pages.proofs.rows.write_rows.Goals as goal

pub returns : goal.returns
returns c =
    let start = c in
    let a = start.args in
    let put = c.put_rows-dots.ensures in
    let both = rows_counted a.order a.row a.count _ _ a.buffer.now _ c.none.ensures put.value (put.buffer_after (omega (arith, start.requires.3))) in record { value = both.0; buffer_after = both.1 }
