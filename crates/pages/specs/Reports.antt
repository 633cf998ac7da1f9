-- Document 02, request 2: what the programs wear and cells print for any bytes.
use Rattle.std.specs.Prelude.{ℕ, ◌*◌, List, ◌++◌}
use Rattle.braille.specs.Braille.{dots_of}
use Rattle.braille.specs.Cells.{row_length}
use Rattle.lines.specs.Lines.{number_text}
use Rattle.order.specs.declared.reading.Order.{Order}
use Rattle.order.specs.Ranges.{most_rows}
use Rattle.reports.specs.Reports.{report_text, longest_refused}
use Rattle.text.specs.Text.{ascii}
use Rattle.pages.specs.Pages.{all_cells}

-- "The wear report reads an order as the sheet program does, prints a refused one alike, and else prints `dots`, a blank and the dots
-- punched: .. the printed total equals the sum over the cells of all its pages."
unfoldable pub total_text : ℕ → List ℕ
total_text dots = number_text (ascii "dots ") dots ++ ascii "\n"

abbrev pub wear_of : Order → List ℕ
wear_of o = total_text (dots_of (all_cells o))

abbrev pub wear_text : List ℕ → List ℕ
wear_text s = report_text wear_of s

-- what the embosser is sent: the cells of all pages, 39 a row, and nothing between them or after them
abbrev pub cells_text : List ℕ → List ℕ
cells_text s = report_text all_cells s

-- the bytes of the longest text: a refused order's line. A total's line is shorter
abbrev pub longest_wear : ℕ
longest_wear = longest_refused

abbrev pub longest_cells : ℕ
longest_cells = row_length * most_rows
