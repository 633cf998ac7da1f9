use Rattle.prelude.proofs.Logic.{rules, w32, w64}
use Rattle.integers.proofs.Ranges.{read}
use Rattle.braille.specs.Cells.{time_cells}
use Rattle.braille.proofs.cells.time_cells.Goals as goal

pub returns : goal.returns
unfolding time_cells
returns c =
    let t = c.before.before.before.before.before in cc (read w32 _ t.ranges.clock, read w64 _ t.ranges.time)
