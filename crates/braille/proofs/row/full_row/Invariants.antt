-- The cells of the first i times follow the row's first three cells.
use Rattle.prelude.proofs.Logic.{◌≡◌, length, take}
use Rattle.text.specs.Text.{put_of}
use Rattle.braille.specs.Cells.{times_cells}
use Rattle.braille.proofs.row.full_row.Given as goal

abbrev pub invariant-loop-i : goal.invariant-loop-i
invariant-loop-i l =
    (length l.cells ≡ 39) × (length l.initial.cells ≡ 39) × (l.cells ≡ put_of l.initial.cells 3 (times_cells l.clock (take l.i l.time-items)))
