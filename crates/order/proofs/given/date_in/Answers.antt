use Rattle.order.specs.Given.{date_in}
use Rattle.order.proofs.given.date_in.Goals as goal

pub returns : goal.returns
unfolding date_in
returns c = cc
