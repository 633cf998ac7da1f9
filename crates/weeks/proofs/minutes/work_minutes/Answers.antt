use Rattle.prelude.proofs.Logic.{◌≡◌, refl, ◌∙◌, ◌<◌, arith, rules}
use Rattle.days.proofs.RowStates.{first-state, state_of, rolled, at_first}
use Rattle.weeks.proofs.MinuteLaws.{row_done}
use Rattle.weeks.proofs.minutes.work_minutes.Goals as goal
use Rattle.weeks.proofs.minutes.work_minutes.Goals.{then-row-gt0, else-row-gt0}

pub loop-row-init : goal.loop-row-init
loop-row-init c =
    record {
      state = c.new-suns.ensures ∙ first-state c.args.order c.requires;
      long = search rules;
      done = λ k h. absurd (omega arith);
      rest = λ k h. refl;
    }

pub loop-row-preserved : goal.loop-row-preserved
loop-row-preserved c =
    let o = c.args.order in
    let l = c.loop-row in
    let h : l.row < o.rows = omega arith in
    let state : c.if-row-gt0.suns ≡ state_of o l.row = elim c.if-row-gt0.branch [
      | then-row-gt0 w ↦ w.suns-is ∙ w.next-suns.ensures ∙ rolled o c.requires l.row h l.suns l.invariant.state w.if-row-gt0.true
      | else-row-gt0 w ↦ w.suns-is ∙ at_first o c.requires l.row l.suns l.invariant.state w.if-row-gt0.false
    ] in
    row_done o c.requires _ l.minutes _ l.row h state l.invariant.long l.invariant.done l.invariant.rest _ (search rules)
