use Rattle.prelude.proofs.Logic.{rules}
use Rattle.fields.specs.Values.{given_by}
use Rattle.order.specs.Given.{degrees_in}
use Rattle.order.specs.Given.{degrees_or}
use Rattle.order.proofs.GivenLaws.{read_or}
use Rattle.order.proofs.given.degrees_or.Goals as goal

pub returns : goal.returns
unfolding degrees_or
returns c =
    let a = c.args in
    read_or (given_by a.given) a.tag c.get.result a.missing c.map_or.result (degrees_in) c.get.ensures (search rules)
