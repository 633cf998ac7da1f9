use Rattle.prelude.proofs.Logic.{sym, ap, ◌∙◌, List, ℕ, ◌-◌, ◌*◌, ◌≤◌, arith, length}
use Rattle.text.specs.Text.{front_of}
use Rattle.pages.proofs.ReportLaws.{all_written, all_length}
use Rattle.pages.proofs.report.put_pages.Goals as goal

pub returns : goal.returns
returns c =
    let start = c in
    let a = start.args in
    let room : 39 * (a.order.rows - 0) ≤ length a.buffer.now = omega (arith, start.requires.0.rows.1, start.requires.1) in
    record {
      value = sym (all_length a.order);
      buffer_after = c.put_rows.ensures.buffer_after room ∙ ap (λ (x : List ℕ). front_of x a.buffer.now) (all_written a.order);
    }
