-- Invariant: with the tags seen, the definition gives from here on what it gives from the start.
use Rattle.std.specs.Prelude.{Err}
use Rattle.std.proofs.lemmas.Result.{err_from_is_err_and}
use Rattle.prelude.proofs.Logic.{◌≡◌, sym, ap, ◌∙◌}
use Rattle.refusals.specs.Refusals.{unless_refused}
use Rattle.refusals.specs.declared.Refusal.{Refusal}
use Rattle.refusals.proofs.Refused.{refuses}
use Rattle.fields.specs.Fields.{fault_of}
use Rattle.fields.proofs.FieldsLaws.{fault_none, good_row}
use Rattle.fields.proofs.Collecting.{check_first, field-passes, field-refused, checked-stop, checked-end, checked-on}
use Rattle.fields.proofs.plain.walk.Goals as goal
use Rattle.fields.proofs.plain.walk.Goals.{In_ok-check_field}

passes : (c : In_ok-check_field) → fault_of c.args.order.now c.loop-at.seen c.loop-at.at ≡ 0
passes c =
    field-passes c.args.order.now c.loop-at.at c.loop-at.seen c.byte-tag.result c.length_at-length.result c.is_seen.result
    c.byte-tag.ensures.value c.length_at-length.ensures.value c.is_seen.ensures c.in_ok-check_field.ensures

pub loop-at-init : goal.loop-at-init
loop-at-init c = check_first c.args.order.now

pub returns-in_err-check_field : goal.returns-in_err-check_field
returns-in_err-check_field c =
    let l = c.loop-at in
    let s = c.args.order.now in
    let p = err_from_is_err_and c.from_residual.result c.from_residual.ensures.1 in
    let r = field-refused s l.at l.seen c.byte-tag.result c.length_at-length.result c.is_seen.result c.byte-tag.ensures.value
    c.length_at-length.ensures.value c.is_seen.ensures _ c.in_err-check_field.ensures in
    let stop = checked-stop s l.at l.seen l.invariant c.loop-at-test.true r.1 in
    rw (p.1, p.2) (ap Err r.0 ∙ sym (refuses _ tt r.1) ∙ ap (λ (x : Refusal). unless_refused x tt) stop)

pub bounds-seen-tag : goal.bounds-seen-tag
bounds-seen-tag c =
    let s = c.args.order.now in
    rw c.byte-tag.ensures.value (good_row s c.loop-at.at (fault_none s c.loop-at.seen c.loop-at.at (passes c)).0)

pub loop-at-preserved : goal.loop-at-preserved
loop-at-preserved c =
    let l = c.loop-at in
    rw (c.byte-tag.ensures.value, c.length_at-length.ensures.value)
    (checked-on c.args.order.now l.at l.seen l.invariant c.loop-at-test.true (passes c))

pub returns : goal.returns
unfolding unless_refused
returns c =
    let l = c.loop-at in
    ap (λ (x : Refusal). unless_refused x tt) (checked-end c.args.order.now l.at l.seen l.invariant c.loop-at-test.false)
