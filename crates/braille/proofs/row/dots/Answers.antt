-- A cell has six dots at most, so no sum wraps.
use Rattle.prelude.proofs.Logic.{◌≡◌, refl, ap, ◌∙◌, ◌≤◌, ◌<◌, arith, length, get_or, take, take_all, length-take-le}
use Rattle.braille.specs.Braille.{dots_of}
use Rattle.braille.proofs.Bits.{ones_dots, dots_most, dots_next, dots_bound, six_at}
use Rattle.braille.proofs.row.dots.Goals as goal

pub loop-cell-init : goal.loop-cell-init
unfolding dots_of
loop-cell-init c = refl

pub overflow_add-sum : goal.overflow_add-sum
overflow_add-sum c =
    let l = c.loop-cell in
    let cells = c.args.cells.now in
    let p = c.requires in
    let i = l.cell-index in
    let h : i < length cells = omega arith in
    let x = get_or cells i 0 in
    let e = ones_dots x (six_at cells i p.1) in
    let m = dots_most x in
    let b = dots_bound (take i cells) in
    let t = length-take-le i cells (omega arith) in
    record { fits = omega (arith, p.0, l.invariant) }

pub loop-cell-preserved : goal.loop-cell-preserved
loop-cell-preserved c =
    let l = c.loop-cell in
    let cells = c.args.cells.now in
    let i = l.cell-index in
    let e = ones_dots (get_or cells i 0) (six_at cells i c.requires.1) in
    let n = dots_next cells i (omega arith) in
    omega (arith, l.invariant)

pub returns : goal.returns
returns c =
    let l = c.loop-cell in
    let cells = c.args.cells.now in
    l.invariant ∙ ap dots_of (take_all l.cell-index cells (omega arith))
