-- The row's cells are put at the front of the buffer, and their dots are counted.
use Rattle.prelude.proofs.Logic.{sym, ap, subst, ◌∙◌, arith, length, rules, w32}
use Rattle.integers.proofs.Ranges.{read, read_back}
use Rattle.braille.specs.{Braille.dots_of, Braille.SixDots, Cells.row_cells}
use Rattle.braille.proofs.{Bits.row_six, Parts.row_length_lem}
use Rattle.braille.proofs.row.put_cells.Goals as goal

pub dots-requires : goal.dots-requires
dots-requires c =
    let at-put = c in
    let at_row = at-put in
    let row = at_row.row_cells-cells in
    let a = at_row.args in
    let clock = read_back w32 a.clock in (
      omega (arith, ap length row.ensures, row_length_lem a.date a.worked clock),
      subst SixDots (sym row.ensures) (row_six a.date a.worked clock),
    )

pub returns : goal.returns
returns c =
    let at-put = c in
    let at_row = at-put in
    let t = at_row in
    let row = at_row.row_cells-cells.ensures ∙ ap (row_cells t.args.date t.args.worked) (read w32 t.args.clock t.ranges.clock) in
    record {
      value = c.dots.ensures ∙ ap dots_of row;
      buffer_after = rw row at at-put.put.ensures;
    }
