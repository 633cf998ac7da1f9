use Rattle.order.specs.Given.{rules_in}
use Rattle.order.proofs.given.rules_in.Goals as goal

pub returns : goal.returns
unfolding rules_in
returns c = cc
