-- Two cases: one form or the other.
use Rattle.prelude.proofs.Logic.{sym}
use Rattle.fields.specs.Values.{given_by}
use Rattle.order.specs.Given.{coordinate_in}
use Rattle.order.proofs.GivenLaws.{had, lacked}
use Rattle.order.proofs.given.coordinate_in.Goals as goal

pub returns-in-Some : goal.returns-in-Some
unfolding coordinate_in
returns-in-Some c =
    let h = had (given_by c.args.given) c.args.map _ c.in-Some.ensures in
    simp (sym c.degrees_of.ensures, sym c.form_in.ensures, sym h.1, h.0)

pub returns-in-None : goal.returns-in-None
unfolding coordinate_in
returns-in-None c =
    let h = lacked (given_by c.args.given) c.args.map c.in-None.ensures in
    simp (sym c.degrees_in.ensures, sym c.value.ensures, h)
