-- The town, a newline and the header that the order asks for.
use Rattle.prelude.proofs.Logic.{arith}
use Rattle.sheets.proofs.Lengths.{header_short, head_length, head_made}
use Rattle.sheets.proofs.sheet.put_head.Goals as goal

pub overflow_add-result : goal.overflow_add-result
overflow_add-result c =
    let t = c in
    let h = c.put_header.ensures.value in
    let n = header_short t.args.ramadan in
    record { fits = omega (arith, t.requires.0) }

pub returns : goal.returns
returns c =
    let t = c in
    let a = t.args in
    let h = c.put_header.ensures in
    let n = header_short a.ramadan in
    let l = head_length a.ramadan a.town.now in
    record {
      value = omega (arith, h.value);
      buffer_after = head_made a.ramadan a.town.now a.buffer.now _ _ (omega (arith, t.requires.0, t.requires.1))
          c.put.ensures h.buffer_after;
    }
