-- Invariant: the first tag that fails from here on is the first of all that fails.
use Rattle.std.specs.Prelude.{Err}
use Rattle.prelude.proofs.Logic.{refl, sym, ap, ◌∙◌, arith}
use Rattle.refusals.specs.declared.Refusal.{Refusal}
use Rattle.refusals.specs.Refusals.{unless_refused}
use Rattle.refusals.proofs.Refused.{refuses, refuses_not}
use Rattle.fields.specs.Values.{given_by}
use Rattle.order.specs.Reading.{required, is_given_of, missing_of}
use Rattle.order.proofs.Tags.{fails, on, none}
use Rattle.order.proofs.reading.missing.Goals as goal

pub loop-tag-init : goal.loop-tag-init
unfolding missing_of
loop-tag-init c = refl

pub returns-then-not-is_given : goal.returns-then-not-is_given
returns-then-not-is_given c =
    let has = (given_by c.args.given).has in
    let stop = fails 4 (is_given_of has) required c.loop-tag.tag-index c.loop-tag-test.true _ refl
    (sym c.is_given.ensures ∙ c.if-not-is_given.true) in
    ap Err c.new.ensures ∙ sym (refuses _ tt (λ z. omega (arith, z)))
    ∙ ap (λ (r : Refusal). unless_refused r tt) (sym stop ∙ c.loop-tag.invariant)

pub loop-tag-preserved : goal.loop-tag-preserved
loop-tag-preserved c =
    let has = (given_by c.args.given).has in
    sym (on 4 (is_given_of has) required c.loop-tag.tag-index c.loop-tag-test.true _ refl
    (sym c.is_given.ensures ∙ c.if-not-is_given.false)) ∙ c.loop-tag.invariant

pub returns : goal.returns
returns c =
    let has = (given_by c.args.given).has in
    sym (refuses_not _ tt (ap (λ (r : Refusal). r.number)
    (sym c.loop-tag.invariant ∙ none 4 (is_given_of has) required c.loop-tag.tag-index (omega arith))))
