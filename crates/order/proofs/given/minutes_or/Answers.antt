use Rattle.prelude.proofs.Logic.{rules}
use Rattle.fields.specs.Values.{given_by}
use Rattle.order.specs.Given.{minutes_in}
use Rattle.order.specs.Given.{minutes_or}
use Rattle.order.proofs.GivenLaws.{read_or}
use Rattle.order.proofs.given.minutes_or.Goals as goal

pub returns : goal.returns
unfolding minutes_or
returns c =
    let a = c.args in
    read_or (given_by a.given) 11 c.get.result a.missing c.map_or.result (minutes_in) c.get.ensures (search rules)
