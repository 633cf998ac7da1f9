-- A struct that the writer takes, so the conditions of its promises can be met. It is read from the first order of order_laws' Witness.
-- Assumes nothing.
use Rattle.std.specs.Prelude.{Result}
use Rattle.order.specs.declared.reading.Order.{Order}
use Rattle.refusals.specs.declared.Refusal.{Refusal}
use Rattle.prelude.proofs.Logic.{◌≡◌, ap, List, ℕ, ◌≤◌, length}
use Rattle.order.specs.{Reading.town_of}
use Rattle.order_numbers.specs.declared.writing.WrittenOrder.{WrittenOrder}
use Rattle.order_numbers.specs.Numbers.{order_read, order_numbers_in, order_numbers_of}
use Rattle.order_numbers.specs.Writing.{order_call_of}
use Rattle.order_numbers.proofs.Calls.{room_is_enough}
use Rattle.order_laws.proofs.Witness.{earlier, can_be_met}

was_read : (order_numbers_of earlier).refusal.number ≡ 0
unfolding order_numbers_of order_numbers_in order_read
was_read = ap (λ (x : Result Order Refusal). (order_numbers_in x).refusal.number) can_be_met.first_read

pub can_be_written : (buffer : List ℕ) → 157 ≤ length buffer
    → (order_call_of (order_numbers_of earlier) (town_of earlier) buffer).answer.refusal.number ≡ 0
can_be_written buffer h = ap (λ (w : WrittenOrder). w.refusal.number) (room_is_enough earlier buffer was_read h)
