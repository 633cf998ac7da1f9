use Rattle.prelude.proofs.Logic.{◌≡◌, refl, ap, ◌∙◌, ◌+◌, ◌-◌, ◌^◌, ◌<◌, arith, length, rules}
use Rattle.days.proofs.RowStates.{state_of, first-state, rolled, at_first}
use Rattle.sheets.proofs.Lengths.{lines_none}
use Rattle.sheets.proofs.Rolled.{since_line, run-line}
use Rattle.sheets.proofs.sheet.put_rows.Goals as goal
use Rattle.sheets.proofs.sheet.put_rows.Goals.{then-row-gt0, else-row-gt0}

pub loop-row-init : goal.loop-row-init
loop-row-init c =
    let o = c.args.order in
    let p = c.requires in
    let n = lines_none o c.args.buffer.now c.args.at (omega (arith, p.1)) in
    record { state = c.new-suns.ensures ∙ first-state o p.0; text = n.0; place = n.1; same = refl }

pub overflow_add-end : goal.overflow_add-end
overflow_add-end c =
    let f : length c.args.buffer.now < 2 ^ 64 = search rules in
    let o = c.args.order in
    let p = c.requires in
    let l = c.loop-row in
    let h : l.row < o.rows = omega arith in
    let put = c.put_line-end in
    let e = c.since_midnight-worked.ensures in
    let state : c.if-row-gt0.suns ≡ state_of o l.row = elim c.if-row-gt0.branch [
      | then-row-gt0 w ↦ w.suns-is ∙ w.next-suns.ensures ∙ rolled o p.0 l.row h l.suns l.invariant.state w.if-row-gt0.true
      | else-row-gt0 w ↦ w.suns-is ∙ at_first o p.0 l.row l.suns l.invariant.state w.if-row-gt0.false
    ] in
    let n = run-line o p.0 c.args.buffer.now c.args.at p.1 l.buffer c.if-row-gt0.suns l.suns l.row l.end l.invariant h state _
    put.new.buffer put.result
    (since_line o p.0 c.if-row-gt0.suns l.row h state _ e.0 e.1) put.ensures.value put.ensures.buffer_after in
    omega (arith, n.2)

pub loop-row-preserved : goal.loop-row-preserved
loop-row-preserved c =
    let o = c.args.order in
    let p = c.requires in
    let l = c.loop-row in
    let h : l.row < o.rows = omega arith in
    let put = c.put_line-end in
    let e = c.since_midnight-worked.ensures in
    let state : c.if-row-gt0.suns ≡ state_of o l.row = elim c.if-row-gt0.branch [
      | then-row-gt0 w ↦ w.suns-is ∙ w.next-suns.ensures ∙ rolled o p.0 l.row h l.suns l.invariant.state w.if-row-gt0.true
      | else-row-gt0 w ↦ w.suns-is ∙ at_first o p.0 l.row l.suns l.invariant.state w.if-row-gt0.false
    ] in
    let n = run-line o p.0 c.args.buffer.now c.args.at p.1 l.buffer c.if-row-gt0.suns l.suns l.row l.end l.invariant h state _
    put.new.buffer put.result
    (since_line o p.0 c.if-row-gt0.suns l.row h state _ e.0 e.1) put.ensures.value put.ensures.buffer_after in
    let next : l.row ≡ l.row + 1 - 1 = omega arith in
    record { state = state ∙ ap (state_of o) next; text = n.0; place = n.1; same = put.auto.buffer ∙ l.invariant.same }

pub shape_of-buffer : goal.shape_of-buffer
shape_of-buffer c = c.loop-row.invariant.same

pub returns : goal.returns
returns c =
    let l = c.loop-row in
    let e : l.row ≡ c.args.order.rows = omega arith in
    record { value = rw e at l.invariant.place; buffer_after = rw e at l.invariant.text }
