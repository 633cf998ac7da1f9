-- The minutes that are kept are those of the definition.
use Rattle.prelude.proofs.Logic.{◌≡◌, ◌∙◌, arith, length, take, length-take-le, rules}
use Rattle.weeks.specs.{Kept.minute_in_list, Report.row_minute}
use Rattle.weeks.proofs.ReportLaws.{report-same, minute_take}
use Rattle.weeks.proofs.report.put_report.Goals as goal

pub returns : goal.returns
returns c =
    let o = c.args.order in
    let kept = c.work_minutes.new.minutes in
    let long : length kept ≡ 400 = search rules in
    let n : length (take o.rows kept) ≡ o.rows = length-take-le o.rows kept (omega (arith, c.requires.0.rows.1)) in
    let same = report-same (minute_in_list (take o.rows kept)) (row_minute o) o.rows (λ k h. minute_take kept o.rows k h ∙ c.work_minutes.ensures.rows k h) in
    record {
      value = rw same at (simp n at c.put_windows.ensures.value);
      buffer_after = rw same at (simp n at c.put_windows.ensures.buffer_after);
    }
