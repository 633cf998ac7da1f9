-- Invariant: with what was collected, the definition collects from here on what it collects from the start.
use Rattle.prelude.proofs.Logic.{◌≡◌}
use Rattle.fields.specs.Fields.{fault_of}
use Rattle.fields.proofs.FieldsLaws.{Good, check_none, fault_none, good_row}
use Rattle.fields.proofs.Collecting.{seen_in, collect_first, sound-here, collected-on, collected-all}
use Rattle.fields.proofs.plain.collect.Goals as goal
use Rattle.fields.proofs.plain.collect.Goals.{In-loop-at}

-- nothing refuses the field here, so its form is right
passes : (t : In-loop-at) → let l = t.loop-at in
    fault_of t.args.order.now (seen_in l.fields.parts) l.at ≡ 0
passes t =
    let l = t.loop-at in
    sound-here t.args.order.now l.at l.fields l.invariant.0 l.invariant.1.walk
    t.loop-at-test.true

good : (t : In-loop-at) → Good t.args.order.now t.loop-at.at
good t = (fault_none t.args.order.now (seen_in t.loop-at.fields.parts) t.loop-at.at (passes t)).0

pub loop-at-init : goal.loop-at-init
loop-at-init c =
    let s = c.args.order.now in
    (rw c.none-fields.ensures (collect_first s), check_none s c.requires)

pub bounds-fields-tag : goal.bounds-fields-tag
bounds-fields-tag c =
    let t = (goal.at.bounds-fields-tag c).In-loop-at in
    rw c.byte-tag.ensures.value (good_row t.args.order.now t.loop-at.at (good t))

pub loop-at-preserved : goal.loop-at-preserved
loop-at-preserved c =
    let t = (goal.at.loop-at-preserved c).In-loop-at in
    let l = t.loop-at in
    rw (c.byte-tag.ensures.value, c.length_at-length.ensures.value) (
      collected-on t.args.order.now l.at l.fields l.invariant.0 t.loop-at-test.true
          (passes t),
      l.invariant.1,
    )

pub returns : goal.returns
returns c =
    let l = c.before in
    collected-all l.args.order.now l.loop-at.at l.loop-at.fields l.loop-at.invariant.0
    c.loop-at-test.false
