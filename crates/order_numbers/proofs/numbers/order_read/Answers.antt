-- Each field of the struct is what its call returns.
use Rattle.order_numbers.specs.Numbers.{order_read}
use Rattle.prelude.proofs.Logic.{rules, w32, SFits, to_z-of_z}
use Rattle.order_numbers.proofs.numbers.order_read.Goals as goal

pub returns : goal.returns
unfolding order_read
returns c =
    let f : SFits w32 c.args.order.setting.parameters.isha_interval = search rules in
    simp (
      to_z-of_z f,
      c.choices_read.ensures,
      c.interval.ensures,
      c.number-5.ensures,
      c.number-4.ensures,
      c.number-3.ensures,
      c.number-2.ensures,
      c.number.ensures,
      c.none.ensures,
    )
