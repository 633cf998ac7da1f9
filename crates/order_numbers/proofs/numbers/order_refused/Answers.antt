use Rattle.order_numbers.specs.Numbers.{order_refused}
use Rattle.float64.proofs.Floats.{round, of_bits, dec}
use Rattle.order_numbers.proofs.numbers.order_refused.Goals as goal

pub returns : goal.returns
unfolding order_refused dec round of_bits
returns c = cc
