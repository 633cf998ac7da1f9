-- The word and the sum of the dots are the report's text.
use Rattle.prelude.proofs.Logic.{arith}
use Rattle.text.proofs.TextLaws.{digits_short}
use Rattle.pages.proofs.ReportLaws.{total_length, total_made}
use Rattle.pages.proofs.report.put_total.Goals as goal

pub overflow_add-end : goal.overflow_add-end
overflow_add-end c =
    let d = digits_short 20 c.args.dots in
    record { fits = omega (arith, c.put_decimal-end.ensures.value) }

pub overflow_add-result : goal.overflow_add-result
overflow_add-result c =
    let d = digits_short 20 c.args.dots in
    record { fits = omega (arith, c.put_decimal-end.ensures.value) }

pub returns : goal.returns
returns c =
    let a = c.args in
    let k = c.put_decimal-end.ensures in
    record {
      value = (total_length a.dots _ k.value).0;
      buffer_after = total_made a.buffer.now _ _ _ a.dots _
          c.requires c.put.ensures k.value k.buffer_after
          c.put-2.ensures;
    }
