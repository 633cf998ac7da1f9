-- A refused order and a read one, each by the law of every report; a buffer that is too short stays.
use Rattle.prelude.proofs.Logic.{lit≤, rules}
use Rattle.text.proofs.PrintedLaws.{printed-short}
use Rattle.reports.proofs.ReportsLaws.{returned, taken, report-read, report-refused}
use Rattle.pages.specs.Reports.{longest_wear}
use Rattle.pages.proofs.report.write_wear.Goals as goal

pub returns-then-buffer-lt-WEAR_BYTES : goal.returns-then-buffer-lt-WEAR_BYTES
returns-then-buffer-lt-WEAR_BYTES c =
    let both = printed-short longest_wear _ c.args.buffer.now c.if-buffer-lt-WEAR_BYTES.true in record { value = both.0; buffer_after = both.1 }

pub all_dots-requires : goal.all_dots-requires
all_dots-requires c = search (taken, rules)

pub returns-in-Ok : goal.returns-in-Ok
returns-in-Ok c =
    let both = report-read _ _ _ _ (search rules) _ _ _ (search returned)
    (rw c.all_dots.ensures at c.put_total.ensures.value, rw c.all_dots.ensures at c.put_total.ensures.buffer_after) in record { value = both.0; buffer_after = both.1 }

pub returns-in-Err : goal.returns-in-Err
returns-in-Err c =
    let both = report-refused _ _ _ _ (search rules) _ _ (lit≤ tt) _ (search returned) (c.put_refused_order.ensures.value, c.put_refused_order.ensures.buffer_after) in record { value = both.0; buffer_after = both.1 }
