-- Invariant: the first tag that fails from here on is the first of all that fails.
use Rattle.std.specs.Prelude.{Err}
use Rattle.prelude.proofs.Logic.{◌≡◌, refl, sym, ap, ◌∙◌, arith}
use Rattle.refusals.specs.declared.Refusal.{Refusal}
use Rattle.refusals.specs.Refusals.{unless_refused}
use Rattle.refusals.proofs.Refused.{refuses, refuses_not}
use Rattle.fields.specs.Values.{given_by}
use Rattle.order.specs.Given.{date_in}
use Rattle.order.specs.Reading.{out_of_range_of}
use Rattle.order.proofs.OutOfRange.{passes, from_tag, tag-fails, tag-passes, tags-end, held}
use Rattle.order.proofs.reading.out_of_range.Goals.{At-loop-tag}
use Rattle.order.proofs.reading.out_of_range.Goals as goal

first : (c : At-loop-tag) → let v = given_by c.args.given in
    from_tag (passes v c.date_in-date.result c.has-ramadan.result) c.loop-tag.tag ≡ out_of_range_of v
first c =
    let v = given_by c.args.given in
    c.loop-tag.invariant
    ∙ held v c.date_in-date.result c.has-ramadan.result (c.date_in-date.ensures ∙ ap date_in c.value.ensures) c.has-ramadan.ensures

pub loop-tag-init : goal.loop-tag-init
loop-tag-init c = refl

pub returns-then-not-in_range : goal.returns-then-not-in_range
returns-then-not-in_range c =
    let v = given_by c.args.given in
    let stop = tag-fails (passes v c.date_in-date.result c.has-ramadan.result) c.loop-tag.tag c.loop-tag-test.true
    (sym c.in_range.ensures ∙ c.if-not-in_range.true) in
    ap Err c.new.ensures ∙ sym (refuses _ tt (λ z. omega (arith, z)))
    ∙ ap (λ (r : Refusal). unless_refused r tt) (sym stop ∙ first (goal.at.returns-then-not-in_range c).At-loop-tag)

pub loop-tag-preserved : goal.loop-tag-preserved
loop-tag-preserved c =
    let v = given_by c.args.given in
    sym (tag-passes (passes v c.date_in-date.result c.has-ramadan.result) c.loop-tag.tag c.loop-tag-test.true
    (sym c.in_range.ensures ∙ c.if-not-in_range.false)) ∙ c.loop-tag.invariant

pub returns : goal.returns
returns c =
    let pass = passes (given_by c.args.given) c.date_in-date.result c.has-ramadan.result in
    let end : c.loop-tag.tag ≡ 21 = omega arith in
    let none = sym (tags-end pass) ∙ ap (from_tag pass) (sym end) ∙ first (goal.at.returns c).At-loop-tag in
    sym (refuses_not _ tt (ap (λ (r : Refusal). r.number) (sym none)))
