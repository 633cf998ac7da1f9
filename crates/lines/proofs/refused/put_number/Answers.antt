-- A word and the number after it are one text; a number has at most twenty digits.
use Rattle.prelude.proofs.Logic.{arith}
use Rattle.text.proofs.TextLaws.{digits_short}
use Rattle.lines.proofs.Making.{number_made, number_end}
use Rattle.lines.proofs.refused.put_number.Goals as goal

pub overflow_add-result : goal.overflow_add-result
overflow_add-result c =
    let d = digits_short 20 c.args.n in
    let e = c.put_decimal.ensures.value in
    let p = c.requires in
    record { fits = omega (arith, p.0, p.1, p.2) }

pub returns : goal.returns
returns c =
    let a = c.args in
    let d = c.put_decimal.ensures in
    let p = c.requires in
    record {
      value = number_end a.word.now a.at a.n _ d.value;
      line_after = number_made a.line.now _ _ a.word.now a.at a.n p.1
          c.put.ensures d.buffer_after;
    }
