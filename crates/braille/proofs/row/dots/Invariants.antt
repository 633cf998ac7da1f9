-- `sum` is the dots of the cells so far.
use Rattle.prelude.proofs.Logic.{◌≡◌, take}
use Rattle.braille.specs.Braille.{dots_of}
use Rattle.braille.proofs.row.dots.Given as goal

abbrev pub invariant-loop-cell : goal.invariant-loop-cell
invariant-loop-cell l = l.sum ≡ dots_of (take l.cell-index l.cells)
