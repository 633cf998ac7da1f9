-- Two cases: a record was read, or a refusal.
use Rattle.prelude.proofs.Logic.{refl}
use Rattle.order.specs.Reading.{town_in}
use Rattle.order.proofs.reading.town.Goals as goal

pub returns-in-Ok : goal.returns-in-Ok
unfolding town_in
returns-in-Ok c = rw c.in-Ok.is c.bytes.ensures

pub returns-in-Err : goal.returns-in-Err
unfolding town_in
returns-in-Err c = rw c.in-Err.is refl
