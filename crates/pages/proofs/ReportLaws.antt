-- What the reports print, and that it fits. Assumes nothing.
use Rattle.prelude.proofs.Logic.{◌≡◌, refl, sym, ap, ◌∙◌, List, [], ◌++◌, ℕ, ◌+◌, ◌-◌, ◌*◌, ◌≤◌, arith, lit≤, length, length-append}
use Rattle.braille.specs.{Braille.dots_of, Cells.row_length}
use Rattle.lines.specs.Lines.{number_text}
use Rattle.order.proofs.AcceptedLaws.{read_accepted}
use Rattle.order.specs.declared.reading.Order.{Order}
use Rattle.reports.proofs.ReportsLaws.{report-fits}
use Rattle.text.proofs.TextLaws.{put_next, digits_short}
use Rattle.text.specs.Printed.{printed_of}
use Rattle.text.specs.Text.{ascii, decimal_of, put_of, front_of}
use Rattle.pages.specs.Pages.{rows_from, cells_of, all_cells}
use Rattle.pages.specs.Reports.{total_text, wear_of, wear_text, cells_text, longest_wear, longest_cells}
use Rattle.pages.proofs.{PageLaws.all-cells, RowsLaws.cells-length}

-- ---- the total's line, part by part
pub total_length : (dots k : ℕ) → k ≡ length (decimal_of dots) → (5 + k + 1 ≡ length (total_text dots)) × (length (total_text dots) ≤ 26)
unfolding total_text number_text
total_length dots k e =
    let a = length-append (ascii "dots ") (decimal_of dots) in
    let b = length-append (ascii "dots " ++ decimal_of dots) (ascii "\n") in
    let d = digits_short 20 dots in
    (omega arith, omega arith)

pub total_made : (buffer one two three : List ℕ) (dots k : ℕ) → longest_wear ≤ length buffer → one ≡ put_of buffer 0 (ascii "dots ")
    → k ≡ length (decimal_of dots) → two ≡ put_of one 5 (decimal_of dots) → three ≡ put_of two (5 + k) (ascii "\n")
    → three ≡ front_of (total_text dots) buffer
unfolding total_text number_text
total_made buffer one two three dots k room p e q r =
    let a = length-append (ascii "dots ") (decimal_of dots) in
    let d = digits_short 20 dots in
    let first = put_next buffer [] (ascii "dots ") buffer one 0 refl refl p (omega arith) in
    let second = put_next buffer (ascii "dots ") (decimal_of dots) one two 5 first refl q (omega arith) in
    put_next buffer (ascii "dots " ++ decimal_of dots) (ascii "\n") two three (5 + k) second (omega arith) r (omega arith)

-- ---- all cells
pub all_written : (o : Order) → cells_of (rows_from o 0 (o.rows - 0)) ≡ all_cells o
all_written o =
    let e : o.rows - 0 ≡ o.rows = omega arith in
    ap (λ (n : ℕ). cells_of (rows_from o 0 n)) e ∙ sym (all-cells o)

pub all_length : (o : Order) → length (all_cells o) ≡ row_length * o.rows
all_length o = ap length (all-cells o) ∙ cells-length o 0 o.rows

module _ (s buffer after : List ℕ) (n : ℕ) where
  pub wear-fits : n ≡ (printed_of longest_wear (wear_text s) buffer).answer → length after ≡ length buffer → n ≤ length after
  wear-fits = report-fits wear_of longest_wear s (λ o e. let t = total_length (dots_of (all_cells o)) _ refl in omega (arith, t.1))
      (lit≤ tt) buffer after n

  pub pages-fit : n ≡ (printed_of longest_cells (cells_text s) buffer).answer → length after ≡ length buffer → n ≤ length after
  pages-fit =
      report-fits all_cells longest_cells s
      (λ o e. let most = (read_accepted s o e).rows.1 in
      let l = all_length o in
      omega arith) (lit≤ tt) buffer after n
