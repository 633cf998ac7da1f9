use Rattle.prelude.proofs.Logic.{◌∙◌, pos, rules, w32, SFits, to_z-of_z}
use Rattle.fields.specs.Numbers.{signed_at_of}
use Rattle.fields.specs.Values.{given_by}
use Rattle.order.specs.Given.{clock_in}
use Rattle.order.proofs.GivenLaws.{read_or}
use Rattle.order.proofs.given.clock_in.Goals as goal

pub returns : goal.returns
unfolding clock_in
returns c =
    let f : SFits w32 c.map_or.result = search rules in
    to_z-of_z f ∙ read_or (given_by c.args.given) 16 c.get.result (pos 0) c.map_or.result (λ x. signed_at_of x 0) c.get.ensures (search rules)
