use Rattle.std.specs.Prelude.{Result}
use Rattle.schedule.specs.declared.prayer_times.PrayerTimes.{PrayerTimes}
use Rattle.refusals.specs.declared.Refusal.{Refusal}
use Rattle.prelude.proofs.Logic.{◌≡◌, refl, ap, ◌∙◌, ◌+◌, ◌-◌, ◌<◌, ◌≤◌, arith, w32}
use Rattle.braille.specs.Cells.{row_cells}
use Rattle.calendar.specs.declared.dates.Date.{Date}
use Rattle.days.proofs.RowStates.{state_of}
use Rattle.integers.proofs.Ranges.{read}
use Rattle.schedule.specs.RowSuns.{row_suns_of}
use Rattle.pages.proofs.Rolled.{clock_fits_lem, done_none, first_suns, rolled_suns, run_row}
use Rattle.pages.proofs.rows.put_rows.Goals as goal
use Rattle.pages.proofs.rows.put_rows.Goals.{then-next-row, else-next-row}

pub loop-next-init : goal.loop-next-init
loop-next-init c =
    let o = c.args.order in
    let n = done_none o c.args.row c.args.buffer.now in
    let e : c.args.row ≡ c.args.row + (c.args.row - c.args.row - 1) = omega arith in
    record {
      state = c.new-suns.ensures ∙ ap (λ (d : Date). row_suns_of d o.setting) c.row.ensures ∙ ap (state_of o) e;
      cells = λ room. n.0;
      punched = n.1;
      same = refl;
    }

pub overflow_add-dots : goal.overflow_add-dots
overflow_add-dots c =
    let o = c.args.order in
    let p = c.requires in
    let l = c.loop-next in
    let from : c.args.row ≤ l.next = omega arith in
    let within : l.next < c.args.end = omega arith in
    let few : l.next < o.rows = omega (arith, p.2) in
    let state : c.if-next-row.suns ≡ state_of o l.next = elim c.if-next-row.branch [
      | then-next-row w ↦ w.suns-is ∙ w.next-suns.ensures ∙ rolled_suns o p.0 c.args.row l.next l.suns few l.invariant.state w.if-next-row.true
      | else-next-row w ↦ w.suns-is ∙ first_suns o c.args.row l.next l.suns l.invariant.state from w.if-next-row.false
    ] in
    let put = c.put_cells-dots in
    let k = read w32 o.clock (clock_fits_lem o p.0) in
    let m = run_row o c.args.row c.args.end p.0 p.2 c.args.buffer.now l.buffer c.if-next-row.suns l.suns l.next l.dots l.invariant from within state
    _ put.new.buffer put.result _
    (ap (λ (w : Result PrayerTimes Refusal). row_cells c.if-next-row.suns.date w o.clock) c.since_midnight-worked.ensures.0)
    (rw k at put.ensures.value) refl
    (rw k at put.ensures.buffer_after) in
    let few : l.next < 400 = omega (arith, p.2, p.0.rows.1) in
    omega (arith, m.2)

pub loop-next-preserved : goal.loop-next-preserved
loop-next-preserved c =
    let o = c.args.order in
    let p = c.requires in
    let l = c.loop-next in
    let from : c.args.row ≤ l.next = omega arith in
    let within : l.next < c.args.end = omega arith in
    let few : l.next < o.rows = omega (arith, p.2) in
    let state : c.if-next-row.suns ≡ state_of o l.next = elim c.if-next-row.branch [
      | then-next-row w ↦ w.suns-is ∙ w.next-suns.ensures ∙ rolled_suns o p.0 c.args.row l.next l.suns few l.invariant.state w.if-next-row.true
      | else-next-row w ↦ w.suns-is ∙ first_suns o c.args.row l.next l.suns l.invariant.state from w.if-next-row.false
    ] in
    let put = c.put_cells-dots in
    let k = read w32 o.clock (clock_fits_lem o p.0) in
    let m = run_row o c.args.row c.args.end p.0 p.2 c.args.buffer.now l.buffer c.if-next-row.suns l.suns l.next l.dots l.invariant from within state
    _ put.new.buffer put.result _
    (ap (λ (w : Result PrayerTimes Refusal). row_cells c.if-next-row.suns.date w o.clock) c.since_midnight-worked.ensures.0)
    (rw k at put.ensures.value) refl
    (rw k at put.ensures.buffer_after) in
    let after : l.next ≡ c.args.row + (l.next + 1 - c.args.row - 1) = omega arith in
    record { state = state ∙ ap (state_of o) after; cells = m.0; punched = m.1; same = put.auto.buffer ∙ l.invariant.same }

pub shape_of-buffer : goal.shape_of-buffer
shape_of-buffer c = c.loop-next.invariant.same

pub returns : goal.returns
returns c =
    let l = c.loop-next in
    let e : l.next ≡ c.args.end = omega (arith, c.requires.1) in
    record { value = rw e at l.invariant.punched; buffer_after = λ room. rw e at (l.invariant.cells room) }
