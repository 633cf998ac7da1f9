-- Each field of the record is the result of its call.
use Rattle.prelude.proofs.Logic.{sym, rules, w32, SFits, to_z-of_z}
use Rattle.order.specs.Reading.{order_of}
use Rattle.order.proofs.reading.record_in.Goals as goal

pub returns : goal.returns
unfolding order_of
returns c =
    let clock : SFits w32 c.clock_in.result = search rules in
    simp (
      c.ramadan_in.ensures,
      to_z-of_z clock,
      sym c.clock_in.ensures,
      c.rules_in.ensures,
      c.parameters_in.ensures,
      c.new.ensures,
      c.coordinate_in-2.ensures,
      c.coordinate_in.ensures,
      c.rows_in.ensures,
      c.value-2.ensures,
      c.date_in.ensures,
      c.value.ensures,
      c.part.ensures,
    )
