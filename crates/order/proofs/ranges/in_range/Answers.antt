use Rattle.prelude.proofs.Logic.{true, rules}
use Rattle.fields.specs.Values.{given_by}
use Rattle.order.specs.Ranges.{fits_in}
use Rattle.order.proofs.GivenLaws.{read_or}
use Rattle.order.proofs.ranges.in_range.Goals as goal

pub returns : goal.returns
returns c =
    let a = c.args in
    read_or (given_by a.given) a.tag c.get.result true c.is_none_or.result (λ x. fits_in a.tag x a.date a.ramadan) c.get.ensures
    (search rules)
