use Rattle.prelude.proofs.Logic.{rules}
use Rattle.fields.specs.Values.{given_by}
use Rattle.fields.specs.Numbers.{byte_of}
use Rattle.models.specs.Numbers.{rounding_of}
use Rattle.order.specs.Given.{rounding_or}
use Rattle.order.proofs.GivenLaws.{read_or}
use Rattle.order.proofs.given.rounding_or.Goals as goal

pub returns : goal.returns
unfolding rounding_or
returns c =
    let a = c.args in
    read_or (given_by a.given) 9 c.get.result a.missing c.map_or.result (λ x. rounding_of (byte_of x 0)) c.get.ensures (search rules)
