-- What an order's reading gives, as the exports of the two readers return it: what a host gets, and what the method brings to the record,
-- which is 0 if the order is refused.
use Rattle.std.specs.Prelude.{Err, Ok, Result}
use Rattle.order.specs.declared.reading.Order.{Order}
use Rattle.refusals.specs.declared.Refusal.{Refusal}
use Rattle.float64.specs.Ops.{dec}
use Rattle.models.specs.Minutes.{no_minutes}
use Rattle.order_numbers.specs.Numbers.{order_read, order_refused}
use Rattle.probes.specs.declared.readers.ProbeOrder.{ProbeOrder}

unfoldable pub answer_of : Result Order Refusal → ProbeOrder
answer_of (Ok o) =
    let p = o.setting.parameters in
    record { numbers = order_read o; maghrib_angle = p.maghrib_angle; method_minutes = p.method_adjustments }
answer_of (Err r) = record { numbers = order_refused r; maghrib_angle = dec 0 0; method_minutes = no_minutes }
