-- A proof for each coordinate, and one for all other tags.
use Rattle.prelude.proofs.Logic.{ne_eqb, arith}
use Rattle.order.specs.Ranges.{look_up}
use Rattle.order.specs.Reading.{is_given_of}
use Rattle.order.proofs.reading.is_given.Goals as goal

pub returns-in-4 : goal.returns-in-4
unfolding is_given_of look_up
returns-in-4 c = simp (c.has-in-4.ensures, c.has.ensures, c.in-4.is)

pub returns-in-5 : goal.returns-in-5
unfolding is_given_of look_up
returns-in-5 c = simp (c.has-in-5-2.ensures, c.has-in-5.ensures, c.in-5.is)

pub returns-in_default : goal.returns-in_default
unfolding is_given_of look_up
returns-in_default c =
    simp (c.has-in_default.ensures, ne_eqb c.args.tag 4 (λ e. omega arith), ne_eqb c.args.tag 5 (λ e. omega arith))
