-- What writing an order returns, and what it leaves in the buffer.
use Rattle.order.specs.declared.reading.Order.{Order}
use Rattle.std.specs.Prelude.{ℕ, cond, List, leb, length, Err, Ok, Result}
use Rattle.refusals.specs.Refusals.{refusal, no_refusal, buffer_short}
use Rattle.refusals.specs.declared.Refusal.{Refusal}
use Rattle.text.specs.Text.{front_of}
use Rattle.order.specs.Reading.{reading_of}
use Rattle.order_numbers.specs.declared.numbers.OrderNumbers.{OrderNumbers}
use Rattle.order_numbers.specs.declared.writing.WrittenOrder.{WrittenOrder}
use Rattle.order_numbers.specs.Values.{encode}

-- what the call returns, and every byte of the lent buffer after it
pub record OrderCall : Type 0 where
  pub answer : WrittenOrder
  pub buffer : List ℕ

abbrev pub refused_of : Refusal → WrittenOrder
refused_of r = record { refusal = r; length = 0 }

abbrev pub written_of : ℕ → WrittenOrder
written_of length = record { refusal = no_refusal; length = length }

-- the refusal of reading the bytes, if there is one, then 9 if the buffer has no room for them; a refused call changes no byte. Else the
-- bytes are at the front, and the bytes after them stay.
unfoldable pub call_in : Result Order Refusal → (text buffer : List ℕ) → OrderCall
call_in (Err r) text buffer = record { answer = refused_of r; buffer = buffer }
call_in (Ok order) text buffer =
    cond (leb (length text) (length buffer)) (record { answer = written_of (length text); buffer = front_of text buffer })
    (record { answer = refused_of (refusal buffer_short 0); buffer = buffer })

abbrev pub order_call_of : OrderNumbers → List ℕ → List ℕ → OrderCall
order_call_of n town buffer = call_in (reading_of (encode n town)) (encode n town) buffer
