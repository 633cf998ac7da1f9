-- The front of the line is the date and the first i columns.
use Rattle.prelude.proofs.Logic.{◌≡◌, List, ℕ, length, take}
use Rattle.text.specs.Text.{front_of}
use Rattle.lines.specs.Lines.{row_bytes}
use Rattle.lines.proofs.Parts.{part_text}
use Rattle.lines.proofs.row.fill_row.Given as goal

abbrev pub invariant-loop-i : goal.invariant-loop-i
invariant-loop-i l =
    (length l.line ≡ row_bytes (length l.times)) × (base : List ℕ) × (length base ≡ row_bytes (length l.times))
    × (l.line ≡ front_of (part_text (take 10 l.initial.line) l.times l.i) base)
