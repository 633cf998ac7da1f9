-- A refused order and a read one, each by the law of every report; a buffer that is too short stays.
use Rattle.prelude.proofs.Logic.{lit≤, rules}
use Rattle.text.proofs.PrintedLaws.{printed-short}
use Rattle.reports.proofs.ReportsLaws.{returned, taken, report-read, report-refused}
use Rattle.weeks.proofs.report.write_week.Goals as goal

pub returns-then-buffer-lt-WEEK_BYTES : goal.returns-then-buffer-lt-WEEK_BYTES
returns-then-buffer-lt-WEEK_BYTES c =
    let both = printed-short _ _ _ c.if-buffer-lt-WEEK_BYTES.true in record { value = both.0; buffer_after = both.1 }

pub put_report-requires : goal.put_report-requires
put_report-requires c = search (taken, rules)

pub returns-in-Ok : goal.returns-in-Ok
returns-in-Ok c =
    let both = report-read _ _ _ _ (search rules) _ _ _ (search returned) (c.put_report.ensures.value, c.put_report.ensures.buffer_after) in record { value = both.0; buffer_after = both.1 }

pub returns-in-Err : goal.returns-in-Err
returns-in-Err c =
    let both = report-refused _ _ _ _ (search rules) _ _ (lit≤ tt) _ (search returned) (c.put_refused_order.ensures.value, c.put_refused_order.ensures.buffer_after) in record { value = both.0; buffer_after = both.1 }
