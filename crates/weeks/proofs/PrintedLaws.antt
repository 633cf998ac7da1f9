-- The report fits the buffer. Assumes nothing.
use Rattle.prelude.proofs.Logic.{◌≡◌, List, ℕ, ◌-◌, ◌≤◌, arith, lit≤, length}
use Rattle.order.proofs.AcceptedLaws.{read_accepted}
use Rattle.reports.proofs.ReportsLaws.{report-fits}
use Rattle.text.specs.Printed.{printed_of}
use Rattle.weeks.specs.Report.{row_minute, orders_report, week_text, longest_week}
use Rattle.weeks.proofs.ReportLaws.{lines_length}

pub week_fits : (s buffer after : List ℕ) (n : ℕ) → n ≡ (printed_of longest_week (week_text s) buffer).answer → length after ≡ length buffer
    → n ≤ length after
week_fits s =
    report-fits orders_report longest_week s
    (λ o e. let most = (read_accepted s o e).rows.1 in
    let l = lines_length (row_minute o) (o.rows - 6) (omega arith) in
    omega arith) (lit≤ tt)
