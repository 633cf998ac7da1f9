-- The promises of the call. Assumes nothing.
use Rattle.std.specs.Prelude.{Err, Ok, Result}
use Rattle.refusals.specs.declared.Refusal.{Refusal}
use Rattle.prelude.proofs.Logic.{◌≡◌, refl, sym, ap, subst, ◌∙◌, List, ℕ, ◌≤◌, arith, leb, length, take, length-take, leb-true, le-leb}
use Rattle.prelude.proofs.Logic.{cases}
use Rattle.order_numbers.proofs.Reader.{front_of, Order, reading_of, town_of, refused_by, read_town}
use Rattle.text.proofs.TextLaws.{take_front}
use Rattle.order_numbers.specs.declared.numbers.OrderNumbers.{OrderNumbers}
use Rattle.order_numbers.specs.Numbers.{order_read, order_numbers_in, order_numbers_of}
use Rattle.order_numbers.specs.Values.{encode}
use Rattle.order_numbers.specs.Writing.{OrderCall, written_of, call_in, order_call_of}
use Rattle.order_numbers.specs.Promises.{ReadAs, WritesWhatIsRead, RoomIsEnough, RefusedChangesNothing}
use Rattle.order_numbers.proofs.Lengths.{encoded_short}
use Rattle.order_numbers.proofs.RoundTrip.{was_read, round_trip}
use Rattle.order_numbers.proofs.Again.{written_again}

abbrev number : OrderCall → ℕ
number call = call.answer.refusal.number

-- if the bytes are not refused and have room, they are written
pub room : (s buffer : List ℕ) (o : Order) → reading_of s ≡ Ok o → length s ≤ length buffer
    → call_in (reading_of s) s buffer ≡ record { answer = written_of (length s); buffer = front_of s buffer }
unfolding call_in
room s buffer o e h = simp (e, le-leb (length s) (length buffer) h)

-- and if a call is not refused, its bytes are not refused and have room; a refused call changes nothing
record Called (s buffer : List ℕ) : Type 0 where
  written : number (call_in (reading_of s) s buffer) ≡ 0 → (o : Order) × (reading_of s ≡ Ok o) × (length s ≤ length buffer)
  refused : 1 ≤ number (call_in (reading_of s) s buffer) → (call_in (reading_of s) s buffer).buffer ≡ buffer

called : (s buffer : List ℕ) → Called s buffer
unfolding call_in
called s buffer = by (reading_of s) refl
  where
    by : (x : Result Order Refusal) → reading_of s ≡ x → Called s buffer
    by (Err r) e =
        let some = (refused_by s r e).some in
        record { written = λ z. let none : r.number ≡ 0 = simp e at z in absurd (omega arith); refused = λ h. simp e }
    by (Ok o) e =
        cases (leb (length s) (length buffer))
        (λ t. record {
          written = λ z. (o, e, leb-true (length s) (length buffer) t);
          refused = λ h. let l : 1 ≤ 0 = simp (e, t) at h in absurd (omega arith);
        })
        (λ t. record { written = λ z. let l : ◌≡◌ {A = ℕ} 9 0 = simp (e, t) at z in absurd (omega arith); refused = λ h. simp (e, t) })

pub writes_what_is_read : WritesWhatIsRead
unfolding order_numbers_of order_numbers_in order_read
writes_what_is_read n town buffer f z =
    let text = encode n town in
    let w = (called text buffer).written z in
    let same : take (order_call_of n town buffer).answer.length (order_call_of n town buffer).buffer ≡ text =
    ap (λ (c : OrderCall). take c.answer.length c.buffer) (room text buffer w.0 w.1 w.2) ∙ take_front text buffer in
    let read : (order_numbers_of text).refusal.number ≡ 0 = ap (λ (x : Result Order Refusal). (order_numbers_in x).refusal.number) w.1 in
    subst (λ (l : List ℕ). ReadAs l n town) (sym same) (round_trip n town f read)

pub room_is_enough : RoomIsEnough
room_is_enough bytes buffer z h =
    let n = order_numbers_of bytes in
    let town = town_of bytes in
    let was = was_read bytes z in
    let long = (read_town bytes was.0 was.1).size.1 in
    let cut = length-take 41 town in
    let short = encoded_short n town in
    let again = written_again bytes z in
    let read = was_read (encode n town) (ap (λ (x : OrderNumbers). x.refusal.number) again.numbers) in
    ap (λ (c : OrderCall). c.answer) (room (encode n town) buffer read.0 read.1 (omega arith))

pub refused_changes_nothing : RefusedChangesNothing
refused_changes_nothing n town buffer h = (called (encode n town) buffer).refused h
