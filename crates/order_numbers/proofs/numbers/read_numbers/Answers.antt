use Rattle.order_numbers.specs.Numbers.{order_numbers_of}
use Rattle.order_numbers.proofs.numbers.read_numbers.Goals as goal

pub returns : goal.returns
unfolding order_numbers_of
returns c = cc
