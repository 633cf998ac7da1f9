use Rattle.sheets.specs.Rows.{header_text}
use Rattle.sheets.proofs.sheet.put_header.Goals as goal

pub returns-then-ramadan : goal.returns-then-ramadan
unfolding header_text
returns-then-ramadan c =
    let e = c.if-ramadan.true in
    record { value = simp e; buffer_after = simp e c.put.ensures }

pub returns : goal.returns
unfolding header_text
returns c =
    let e = c.if-ramadan.false in
    record { value = simp e; buffer_after = simp e c.put-2.ensures }
