-- The order's bytes are read as the struct, field by field, if what is read is in range. Assumes nothing.
use Rattle.std.specs.Prelude.{Err, Ok, Result}
use Rattle.refusals.specs.declared.Refusal.{Refusal}
use Rattle.prelude.proofs.Logic.{◌≡◌, refl, sym, ap, subst, ◌∙◌, Bool, true, false, not, cond, List, [], ◌∷◌, ◌++◌, ℕ, ◌+◌, ◌≤◌, arith}
use Rattle.prelude.proofs.Logic.{length, T, lit<, lit≤}
use Rattle.prelude.proofs.Ieee.{Float, binary64, fits, neg, le}
use Rattle.order_numbers.proofs.Reader.{dec, no_refusal, Near, last_tag, ramadan_tag, choice_fits, check_of, Values}
use Rattle.order_numbers.proofs.Reader.{values_of, value_of, has_of, Part, fits_between, value-fits, first, Ramadan, method_of}
use Rattle.order_numbers.proofs.Reader.{method_number_of, madhab_of, madhab_number_of, rule_of, rule_number_of, rounding_of, rounding_number_of}
use Rattle.order_numbers.proofs.Reader.{shafaq_of, shafaq_number_of, midnight_of, midnight_number_of, southern_of, southern_number_of, Order}
use Rattle.order_numbers.proofs.Reader.{degrees_in, coordinate_in, byte_or, degrees_or, rounding_or, minutes_or}
use Rattle.order_numbers.proofs.Reader.{interval_or, parameters_in, rules_in, clock_in, ramadan_in, most_interval, most_clock, most_imsak}
use Rattle.order_numbers.proofs.Reader.{look_up, fits_of, order_of, out_of_range_of, reading_of, Accepted, brought, read_accepted}
use Rattle.order_numbers.proofs.Reader.{read_passed, refused_by, fits_given, town_value}
use Rattle.unit.specs.declared.Coordinates.{Coordinates}
use Rattle.unit.specs.Unit.{coordinates_of}
use Rattle.order_numbers.specs.declared.numbers.OrderNumbers.{OrderNumbers}
use Rattle.order_numbers.specs.Numbers.{set_number_of, order_read, order_refused, order_numbers_in, order_numbers_of}
use Rattle.order_numbers.specs.Bytes.{byte_for, float_bytes}
use Rattle.order_numbers.specs.Values.{town_bytes, start_fields, setting_fields, time_fields, rule_fields, ramadan_bytes, unsaid}
use Rattle.order_numbers.specs.Values.{ramadan_fields, fields_for, encode}
use Rattle.order_numbers.specs.Promises.{Floats, again, RoundTrip}
use Rattle.order_numbers.proofs.Found.{stands_in, value_in, said_in, values_joined, first_offset}
use Rattle.order_numbers.proofs.KindLaws.{word, signed, float_held}
use Rattle.order_numbers.proofs.ValueLaws.{town_held, date, rows, minutes, choice, ramadan_again, ramadan_held}

-- ---- what the fields give by tag: `none` if they say nothing of Ramadan
module _ (n : OrderNumbers) (town : List ℕ) (part : ℕ → Part) where
  abbrev pub said : Bool → Values
  said none =
      said_in (start_fields n.date n.rows town ++ setting_fields n ++ time_fields n ++ rule_fields n.choices
      ++ cond none [] ((ramadan_tag, ramadan_bytes n.choices) ∷ [])) part

  -- tags 18 and 19 are never there
  abbrev place : Coordinates
  place = coordinates_of (degrees_in (float_bytes n.coordinates.latitude)) (degrees_in (float_bytes n.coordinates.longitude))

  place-said : (none : Bool) → (order_of (said none)).setting.coordinates ≡ place
  unfolding order_of coordinate_in stands_in value_in
  place-said true = refl
  place-said false = refl

  pub map-said : (none : Bool) → ((said none).has 18 ≡ false) × ((said none).has 19 ≡ false) × ((said none).has 20 ≡ not none)
  unfolding stands_in
  map-said true = (refl, refl, refl)
  map-said false = (refl, refl, refl)

  pub ramadan-said : (none : Bool) → (order_of (said none)).ramadan ≡ ramadan_again none n.choices
  unfolding order_of ramadan_in stands_in value_in
  ramadan-said true = refl
  ramadan-said false = refl

  -- ---- if what is read is in range, it is the struct
  module _ (f : Floats n) (a : Accepted (order_of (said (unsaid n.choices))))
      (ranges : (out_of_range_of (said (unsaid n.choices))).number ≡ 0) where
    abbrev v : Values
    v = said (unsaid n.choices)

    coordinate : (low x : Float) (of : Coordinates → Float) → T (fits binary64 x) → of place ≡ degrees_in (float_bytes x)
        → le low (of (order_of v).setting.coordinates) ≡ true → of (order_of v).setting.coordinates ≡ x
    coordinate low x of g e h =
        let is = ap of (place-said (unsaid n.choices)) ∙ e in
        is ∙ float_held low x g (subst (λ (y : Float). le low y ≡ true) is h)

    chosen : (tag : ℕ) → 1 ≤ tag → tag ≤ last_tag → v.has tag ≡ true → fits_of v tag ≡ true
    chosen = fits_given v ranges

    same_numbers : (order_of v).town ≡ record { at = 3; length = length town } → order_read (order_of v) ≡ again n town
    unfolding order_read order_of parameters_in rules_in clock_in byte_or degrees_or rounding_or minutes_or interval_or stands_in value_in fits_of
        look_up choice_fits method_of madhab_of rule_of rounding_of shafaq_of midnight_of southern_of
    same_numbers t =
        let c = n.choices in
        let read = ramadan-said (unsaid c) in
        let told = ramadan_held c (subst (λ (r : Ramadan). r.imsak ≤ most_imsak) read a.imsak)
        (subst (λ (r : Ramadan). Near 1 r.shift) read a.shift) in
        let method = choice 6 (λ b. method_number_of (method_of b)) tt n.method (chosen 6 (lit≤ tt) (lit≤ tt) refl) in
        λ i. record {
          refusal = no_refusal;
          town = t i;
          date = (date n.date).held a.date i;
          rows = (rows n.rows).held a.rows.1 i;
          coordinates = record {
            latitude = coordinate (neg (dec 90 0)) n.coordinates.latitude (λ c. c.latitude) f.latitude refl a.latitude.0 i;
            longitude =
                coordinate (neg (dec 180 0)) n.coordinates.longitude (λ c. c.longitude) f.longitude refl a.longitude.0 i;
          };
          fajr_angle = float_held (dec 0 0) n.fajr_angle f.fajr_angle a.parameters.fajr_angle.0 i;
          isha_angle = float_held (dec 0 0) n.isha_angle f.isha_angle a.parameters.isha_angle.0 i;
          method = (ap method_number_of (brought (method_of (byte_for n.method))).named ∙ method) i;
          madhab = choice 7 (λ b. madhab_number_of (madhab_of b)) tt n.madhab (chosen 7 (lit≤ tt) (lit≤ tt) refl) i;
          high_latitude_rule = choice 8 (λ b. rule_number_of (rule_of b)) tt n.high_latitude_rule (chosen 8 (lit≤ tt) (lit≤ tt) refl) i;
          rounding = choice 9 (λ b. rounding_number_of (rounding_of b)) tt n.rounding (chosen 9 (lit≤ tt) (lit≤ tt) refl) i;
          shafaq = choice 10 (λ b. shafaq_number_of (shafaq_of b)) tt n.shafaq (chosen 10 (lit≤ tt) (lit≤ tt) refl) i;
          isha_interval = (word most_interval n.isha_interval (lit< tt)).held a.parameters.isha_interval.to i;
          minutes = (minutes n.minutes).held a.parameters.own i;
          choices = record {
            carry = choice 15 (λ b. midnight_number_of (midnight_of b)) tt c.carry (chosen 15 (lit≤ tt) (lit≤ tt) refl) i;
            clock = (signed most_clock c.clock (lit< tt)).held a.clock i;
            southern = choice 17 (λ b. southern_number_of (southern_of b)) tt c.southern (chosen 17 (lit≤ tt) (lit≤ tt) refl) i;
            ramadan = (ap (λ (r : Ramadan). set_number_of r.set) read ∙ told.ramadan) i;
            imsak = (ap (λ (r : Ramadan). r.imsak) read ∙ told.imsak) i;
            shift = (ap (λ (r : Ramadan). r.shift) read ∙ told.shift) i;
          };
        }

-- ---- for bytes whose form is right
module _ (n : OrderNumbers) (town : List ℕ) (right : (check_of (encode n town)).number ≡ 0) where
  pub encoded : values_of (encode n town) ≡ said n town (values_of (encode n town)).part (unsaid n.choices)
  unfolding encode ramadan_fields
  encoded = values_joined (fields_for n town) right

  -- the town's field is the first, and its value is the town
  town-given : has_of (encode n town) 1 ≡ true
  unfolding stands_in
  town-given = ap (λ (v : Values). v.has 1) encoded

  town-whole : value_of (encode n town) 1 ≡ town
  unfolding value_in
  town-whole =
      let value : value_of (encode n town) 1 ≡ town_bytes town = ap (λ (v : Values). v.value 1) encoded in
      let long = (fits_between 1 (length (value_of (encode n town) 1)) (value-fits (encode n town) 1 right town-given)).1 in
      let size = ap (length {A = ℕ}) value in
      value ∙ town_held town (omega arith)

  town-part : (values_of (encode n town)).part 1 ≡ record { at = 3; length = length town }
  unfolding encode
  town-part =
      let field = first (encode n town) 1 right in
      let at = field.begins town-given ∙ ap (λ (k : ℕ). k + 3) (first_offset 1 (town_bytes town) _) in
      let long = field.long ∙ ap (length {A = ℕ}) town-whole in
      λ i. record { at = at i; length = long i }

-- a reading that refuses nothing gives a record
pub was_read : (s : List ℕ) → (order_numbers_of s).refusal.number ≡ 0 → (o : Order) × (reading_of s ≡ Ok o)
unfolding order_numbers_of order_numbers_in order_refused
was_read s z = by (reading_of s) refl
  where
    by : (r : Result Order Refusal) → reading_of s ≡ r → (o : Order) × (reading_of s ≡ Ok o)
    by (Ok o) e = (o, e)
    by (Err r) e =
        let some = (refused_by s r e).some in
        let none : r.number ≡ 0 = sym (ap (λ (x : Result Order Refusal). (order_numbers_in x).refusal.number) e) ∙ z in
        absurd (omega arith)

pub round_trip : RoundTrip
unfolding order_numbers_of order_numbers_in order_of
round_trip n town f z =
    let s = encode n town in
    let read = was_read s z in
    let passed = read_passed s read.0 read.1 in
    let right = passed.fields in
    let part = (values_of s).part in
    let is = encoded n town right in
    let a = subst Accepted (sym passed.same ∙ ap order_of is) (read_accepted s read.0 read.1) in
    let ranges = subst (λ (v : Values). (out_of_range_of v).number ≡ 0) is passed.ranges in
    record {
      numbers = ap order_numbers_in read.1 ∙ ap order_read (sym passed.same ∙ ap order_of is)
          ∙ same_numbers n town part f a ranges (town-part n town right);
      named = town_value s read.0 read.1 ∙ town-whole n town right;
    }
