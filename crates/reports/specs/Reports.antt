-- Documents 01 and 02: each program "reads an order as the sheet program does, prints a refused one alike", and prints a text of its own
-- for an order that is read.
use Rattle.refusals.specs.declared.Refusal.{Refusal}
use Rattle.std.specs.Prelude.{ℕ, List, Err, Ok, Result}
use Rattle.lines.specs.Lines.{refused_order_text}
use Rattle.order.specs.declared.reading.Order.{Order}
use Rattle.order.specs.Reading.{reading_of}

unfoldable pub report_in : (Order → List ℕ) → Result Order Refusal → List ℕ
report_in text (Ok o) = text o
report_in text (Err r) = refused_order_text r

abbrev pub report_text : (Order → List ℕ) → List ℕ → List ℕ
report_text text s = report_in text (reading_of s)

-- the bytes of the longest line of a refused order
abbrev pub longest_refused : ℕ
longest_refused = 62
