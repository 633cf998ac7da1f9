-- The latitude is checked first.
use Rattle.prelude.proofs.Logic.{sym}
use Rattle.refusals.specs.Refusals.{unless_refused}
use Rattle.order.specs.Reading.{both_forms_of}
use Rattle.order.proofs.reading.both_forms.Goals as goal

pub returns-then-has : goal.returns-then-has
unfolding both_forms_of unless_refused
returns-then-has c = simp (c.new.ensures, sym c.has-2.ensures, sym c.has.ensures, c.if-has.true)

pub returns-then-has-2 : goal.returns-then-has-2
unfolding both_forms_of unless_refused
returns-then-has-2 c =
    simp (
      c.new-then-has-2.ensures,
      sym c.has-4.ensures,
      sym c.has-3.ensures,
      sym c.has-2.ensures,
      sym c.has.ensures,
      c.if-has-2.true,
      c.if-has.false,
    )

pub returns : goal.returns
unfolding both_forms_of unless_refused
returns c =
    simp (
      sym c.has-4.ensures,
      sym c.has-3.ensures,
      sym c.has-2.ensures,
      sym c.has.ensures,
      c.if-has-2.false,
      c.if-has.false,
    )
