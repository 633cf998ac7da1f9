-- What the writer promises: it is the reader's inverse. Proved in proofs/: RoundTrip.antt, Again.antt and Calls.antt.
use Rattle.std.specs.Prelude.{ℕ, ◌≤◌, ◌≡◌, List, T, length, take}
use Rattle.std.specs.Float.{binary64}
use Rattle.std.specs.Float.Ieee.{fits}
use Rattle.refusals.specs.Refusals.{no_refusal}
use Rattle.order.specs.Reading.{town_of}
use Rattle.order_numbers.specs.declared.numbers.OrderNumbers.{OrderNumbers}
use Rattle.order_numbers.specs.Numbers.{order_numbers_of}
use Rattle.order_numbers.specs.Values.{encode}
use Rattle.order_numbers.specs.Writing.{written_of, order_call_of}

-- each float of the struct is an f64, as every float of a program is
pub record Floats (n : OrderNumbers) : Type 0 where
  pub latitude : T (fits binary64 n.coordinates.latitude)
  pub longitude : T (fits binary64 n.coordinates.longitude)
  pub fajr_angle : T (fits binary64 n.fajr_angle)
  pub isha_angle : T (fits binary64 n.isha_angle)

-- the same struct with the town at its new place: the writer puts it first, behind a field's three bytes of tag and length
abbrev pub again : OrderNumbers → List ℕ → OrderNumbers
again n town =
    record {
      refusal = no_refusal;
      town = record { at = 3; length = length town };
      date = n.date;
      rows = n.rows;
      coordinates = n.coordinates;
      fajr_angle = n.fajr_angle;
      isha_angle = n.isha_angle;
      method = n.method;
      madhab = n.madhab;
      high_latitude_rule = n.high_latitude_rule;
      rounding = n.rounding;
      shafaq = n.shafaq;
      isha_interval = n.isha_interval;
      minutes = n.minutes;
      choices = n.choices;
    }

-- the bytes are read as the struct and the town
pub record ReadAs (bytes : List ℕ) (n : OrderNumbers) (town : List ℕ) : Type 0 where
  pub numbers : order_numbers_of bytes ≡ again n town
  pub named : town_of bytes ≡ town

-- if the bytes of a struct are not refused, they are read as that struct
abbrev pub RoundTrip : Type 0
RoundTrip = (n : OrderNumbers) (town : List ℕ) → Floats n → (order_numbers_of (encode n town)).refusal.number ≡ 0
    → ReadAs (encode n town) n town

-- "reading what was written returns the same struct"
abbrev pub WritesWhatIsRead : Type 0
WritesWhatIsRead = (n : OrderNumbers) (town buffer : List ℕ) → Floats n
    → let call = order_call_of n town buffer in
    call.answer.refusal.number ≡ 0 → ReadAs (take call.answer.length call.buffer) n town

-- a struct that was read from any bytes is written as bytes that are read as the same struct: nothing that an order can say is refused
abbrev pub WrittenAgain : Type 0
WrittenAgain = (bytes : List ℕ) → (order_numbers_of bytes).refusal.number ≡ 0
    → ReadAs (encode (order_numbers_of bytes) (town_of bytes)) (order_numbers_of bytes) (town_of bytes)

-- and a buffer of 157 bytes has room for it
abbrev pub RoomIsEnough : Type 0
RoomIsEnough = (bytes buffer : List ℕ) → (order_numbers_of bytes).refusal.number ≡ 0 → 157 ≤ length buffer
    → let text = encode (order_numbers_of bytes) (town_of bytes) in
    (order_call_of (order_numbers_of bytes) (town_of bytes) buffer).answer ≡ written_of (length text)

-- "a refused call changes no byte"
abbrev pub RefusedChangesNothing : Type 0
RefusedChangesNothing = (n : OrderNumbers) (town buffer : List ℕ) → 1 ≤ (order_call_of n town buffer).answer.refusal.number
    → (order_call_of n town buffer).buffer ≡ buffer
