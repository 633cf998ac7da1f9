use Rattle.prelude.proofs.Logic.{sym, rules, w32, SFits, to_z-of_z}
use Rattle.order.specs.Given.{minutes_in}
use Rattle.order.proofs.given.minutes_in.Goals as goal

pub returns : goal.returns
unfolding minutes_in
returns c =
    let f1 : SFits w32 c.signed.result = search rules in
    let f2 : SFits w32 c.signed-2.result = search rules in
    let f3 : SFits w32 c.signed-3.result = search rules in
    let f4 : SFits w32 c.signed-4.result = search rules in
    let f5 : SFits w32 c.signed-5.result = search rules in
    let f6 : SFits w32 c.signed-6.result = search rules in
    simp (
      c.new.ensures,
      to_z-of_z f1,
      sym c.signed.ensures,
      to_z-of_z f2,
      sym c.signed-2.ensures,
      to_z-of_z f3,
      sym c.signed-3.ensures,
      to_z-of_z f4,
      sym c.signed-4.ensures,
      to_z-of_z f5,
      sym c.signed-5.ensures,
      to_z-of_z f6,
      sym c.signed-6.ensures,
    )
