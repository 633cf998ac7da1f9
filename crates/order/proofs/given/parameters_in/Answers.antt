-- Each field of the parameters is the result of its call.
use Rattle.prelude.proofs.Logic.{sym, ap, ◌∙◌, rules, w32, SFits, to_z-of_z}
use Rattle.fields.specs.Values.{given_by}
use Rattle.order.specs.Given.{interval_or, parameters_in}
use Rattle.order.proofs.given.parameters_in.Goals as goal

pub returns : goal.returns
unfolding parameters_in
returns c =
    let a = c.args in
    let f0 : SFits w32 c.interval_or.result = search rules in
    let f1 : SFits w32 c.parameters-preset.result.isha_interval = search rules in
    let interval = c.interval_or.ensures ∙ ap (interval_or (given_by a.given)) (to_z-of_z f1) in
    simp (
      to_z-of_z f0,
      sym interval,
      sym c.of_number-4.ensures,
      sym c.byte_or-3.ensures,
      sym c.rounding_or.ensures,
      sym c.minutes_or.ensures,
      sym c.default.ensures,
      sym c.of_number-3.ensures,
      sym c.byte_or-2.ensures,
      sym c.of_number-2.ensures,
      sym c.byte_or.ensures,
      sym c.degrees_or-2.ensures,
      sym c.degrees_or.ensures,
      sym c.parameters-preset.ensures,
      sym c.of_number.ensures,
      sym c.byte.ensures.value,
      sym c.value.ensures,
    )
