-- Invariant: with what was collected, which tells the tags seen, both passes of the definition give from here on what they give from the
-- start.
use Rattle.std.specs.Prelude.{Err}
use Rattle.std.proofs.lemmas.Result.{err_from_is_err_and}
use Rattle.prelude.proofs.Logic.{◌≡◌, sym, ap, ◌∙◌, ℕ, arith}
use Rattle.refusals.specs.Refusals.{refusal}
use Rattle.fields.specs.Fields.{fault_of}
use Rattle.fields.proofs.FieldsLaws.{fault_cut, fault_none, good_row}
use Rattle.fields.proofs.Collecting.{length_is, seen_in, seen_collected, collect_first, field-passes, field-refused, refused-here, nothing-refused}
use Rattle.fields.proofs.Collecting.{collected-on, collected-all, check_walk, checked_not, checked_all}
use Rattle.fields.proofs.one_pass.pass.Goals as goal
use Rattle.fields.proofs.one_pass.pass.Goals.{In_ok-check_field}

passes : (c : In_ok-check_field) → fault_of c.args.order.now (seen_in c.loop-at.fields.parts) c.loop-at.at ≡ 0
passes c =
    let l = c.loop-at in
    let s = c.args.order.now in
    field-passes s l.at (seen_in l.fields.parts) c.byte-tag.result c.unsigned-length.result c.has.result c.byte-tag.ensures.value
    (length_is s l.at _ c.unsigned-length.ensures.value) (c.has.ensures ∙ seen_collected l.fields c.byte-tag.result)
    c.in_ok-check_field.ensures

pub loop-at-init : goal.loop-at-init
loop-at-init c = rw c.none-fields.ensures (collect_first c.args.order.now)

-- a cut header is the first of the definition's faults
pub returns-then-left-lt-HEADER_LENGTH : goal.returns-then-left-lt-HEADER_LENGTH
returns-then-left-lt-HEADER_LENGTH c =
    let l = c.loop-at in
    let s = c.args.order.now in
    let e = fault_cut s (seen_in l.fields.parts) l.at c.if-left-lt-HEADER_LENGTH.true in
    let stop = refused-here s l.at l.fields l.invariant c.loop-at-test.true (λ z. omega (arith, e ∙ z)) in
    ap Err c.new.ensures
    ∙ checked_not s 1 l.at (check_walk s c.requires ∙ stop ∙ ap (λ (n : ℕ). refusal n l.at) (sym e)) (λ z. omega (arith, z))

pub returns-in_err-check_field : goal.returns-in_err-check_field
returns-in_err-check_field c =
    let l = c.loop-at in
    let s = c.args.order.now in
    let p = err_from_is_err_and c.from_residual.result c.from_residual.ensures.1 in
    let r = field-refused s l.at (seen_in l.fields.parts) c.byte-tag.result c.unsigned-length.result c.has.result
    c.byte-tag.ensures.value (length_is s l.at _ c.unsigned-length.ensures.value)
    (c.has.ensures ∙ seen_collected l.fields c.byte-tag.result) _ c.in_err-check_field.ensures in
    let stop = refused-here s l.at l.fields l.invariant c.loop-at-test.true r.1 in
    rw (p.1, p.2) (ap Err r.0 ∙ checked_not s _ l.at (check_walk s c.requires ∙ stop) r.1)

pub bounds-fields-tag : goal.bounds-fields-tag
bounds-fields-tag c =
    let s = c.args.order.now in
    let l = c.loop-at in
    rw c.byte-tag.ensures.value (good_row s l.at (fault_none s (seen_in l.fields.parts) l.at (passes c)).0)

pub loop-at-preserved : goal.loop-at-preserved
loop-at-preserved c =
    let l = c.loop-at in
    let s = c.args.order.now in
    rw (c.byte-tag.ensures.value, length_is s l.at _ c.unsigned-length.ensures.value)
    (collected-on s l.at l.fields l.invariant c.loop-at-test.true (passes c))

pub returns : goal.returns
returns c =
    let l = c.loop-at in
    let s = c.args.order.now in
    let ended = c.loop-at-test.false in
    checked_all s l.fields (check_walk s c.requires ∙ nothing-refused s l.at l.fields l.invariant ended)
    (collected-all s l.at l.fields l.invariant ended)
