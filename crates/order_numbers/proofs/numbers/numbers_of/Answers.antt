use Rattle.order_numbers.specs.Numbers.{order_numbers_in}
use Rattle.order_numbers.proofs.numbers.numbers_of.Goals as goal

pub returns-in-Ok : goal.returns-in-Ok
unfolding order_numbers_in
returns-in-Ok c = rw c.in-Ok.is c.order_read.ensures

pub returns-in-Err : goal.returns-in-Err
unfolding order_numbers_in
returns-in-Err c = rw c.in-Err.is c.order_refused.ensures
