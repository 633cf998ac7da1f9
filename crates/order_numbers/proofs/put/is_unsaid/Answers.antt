use Rattle.prelude.proofs.Logic.{rules, w32, SFits, to_z-of_z}
use Rattle.order_numbers.specs.Values.{unsaid}
use Rattle.order_numbers.proofs.put.is_unsaid.Goals as goal

pub returns : goal.returns
unfolding unsaid
returns c =
    let f : SFits w32 c.args.c.shift = search rules in simp (to_z-of_z f)
