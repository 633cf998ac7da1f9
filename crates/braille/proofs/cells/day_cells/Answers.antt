use Rattle.braille.specs.Cells.{day_cells}
use Rattle.prelude.proofs.Logic.{rules}
use Rattle.braille.proofs.cells.day_cells.Goals as goal

pub returns : goal.returns
unfolding day_cells
returns c = cc
