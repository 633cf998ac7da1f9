-- Invariant: the cells of the first i times follow the row's first three cells.
use Rattle.std.specs.Prelude.{Ok}
use Rattle.prelude.proofs.Logic.{◌≡◌, refl, ap, ◌∙◌, ◌-◌, ◌≤◌, arith, pos, length, get_or, take, replicate, rules, w32, w64, to_z}
use Rattle.integers.proofs.Ranges.{read_back, read}
use Rattle.text.specs.Text.{put_of}
use Rattle.braille.specs.Cells.{time_cells, times_cells, row_cells}
use Rattle.braille.proofs.Parts.{times_none, time_put, day_put, row_done}
use Rattle.braille.proofs.row.full_row.Goals as goal

pub loop-i-init : goal.loop-i-init
loop-i-init c = let p = c.put in (p.auto.buffer, p.auto.buffer, times_none (read_back w32 c.args.clock) c.six-six.result p.new.buffer p.auto.buffer)

pub loop-i-preserved : goal.loop-i-preserved
loop-i-preserved c =
    let time = c.time_cells in
    let l = c.loop-i in
    let clock = read_back w32 c.args.clock in
    let six = c.six-six.result in
    let n : length six ≡ 6 = search rules in
    let k : read_back w64 (get_or six l.i (pos 0)) ≡ get_or six l.i (pos 0) = search rules in
    let put = c.put-in-loop-i in (
      put.auto.buffer ∙ l.invariant.0,
      l.invariant.1,
      time_put clock six l.i (pos 0) c.put.new.buffer l.cells put.new.buffer time.result (omega arith) n
          l.invariant.1 l.invariant.2 (time.ensures ∙ ap (time_cells clock) k) put.ensures,
    )

pub returns : goal.returns
returns c =
    let day = c.day_cells in
    let a = c.args in
    let l = c.loop-i in
    let six = c.six-six in
    let n : length six.result ≡ 6 = search rules in
    let put = c.put in
    let end : l.i ≡ 6 = omega arith in
    let front = day_put a.date (replicate 39 0) put.new.buffer day.result refl day.ensures put.ensures in
    row_done a.date a.times (read_back w32 a.clock) six.result l.i put.new.buffer l.cells six.ensures end front
    l.invariant.2 ∙ ap (row_cells a.date (Ok a.times)) (read w32 a.clock c.ranges.clock)
