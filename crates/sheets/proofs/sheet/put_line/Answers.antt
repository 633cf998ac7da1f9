use Rattle.lines.specs.Since.{line_since}
use Rattle.sheets.proofs.sheet.put_line.Goals as goal

pub returns-in-Ok : goal.returns-in-Ok
unfolding line_since
returns-in-Ok c =
    let e = c.in-Ok.is in
    let put = c.put_row.ensures in
    record { value = simp e put.value; buffer_after = simp e put.buffer_after }

pub returns-in-Err : goal.returns-in-Err
unfolding line_since
returns-in-Err c =
    let e = c.in-Err.is in
    let put = c.put_refused_day.ensures in
    record { value = simp e put.value; buffer_after = simp e put.buffer_after }
