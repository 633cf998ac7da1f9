use Rattle.prelude.proofs.Logic.{rules, w32}
use Rattle.integers.proofs.Ranges.{read}
use Rattle.braille.specs.Cells.{row_cells}
use Rattle.braille.proofs.row.row_cells.Goals as goal

pub returns-in-Ok : goal.returns-in-Ok
returns-in-Ok c = let t = c in cc (read w32 t.args.clock t.ranges.clock)

pub returns-in-Err : goal.returns-in-Err
unfolding row_cells
returns-in-Err c = cc
