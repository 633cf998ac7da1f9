-- A struct that was read from any bytes is written as bytes that are read as the same struct. Assumes nothing.
use Rattle.prelude.proofs.Logic.{◌≡◌, refl, sym, ap, subst, ◌∙◌, Bool, true, false, not, ◌&&◌, List, ◌∷◌, ℕ, ◌+◌, ◌-◌, ◌≤◌, arith, leb}
use Rattle.prelude.proofs.Logic.{ℤ, pos, negsuc, le_z, length, take_all, le-leb, leb-true, eq-eqb, cases, lit<}
use Rattle.prelude.proofs.Ieee.{Float, neg}
use Rattle.order_numbers.proofs.Reader.{dec, P, Near, to_le, Date, row_date_of, longest_town, length_fits, check_of, Values, values_of}
use Rattle.order_numbers.proofs.Reader.{Part, TimeAdjustment, Prayer, Fajr, Sunrise, Dhuhr, Asr, Maghrib, Isha, minutes_for}
use Rattle.order_numbers.proofs.Reader.{printable, Order, rows_in, degrees_in, ramadan_given, first_year, last_year, most_rows, most_in}
use Rattle.order_numbers.proofs.Reader.{most_minutes, most_interval, most_clock, most_imsak, within, date_fits, rows_fit, minute_fits}
use Rattle.order_numbers.proofs.Reader.{minutes_fit, interval_fits, clock_fits, ramadan_fits, ramadan_rows, look_up, fits_of, in_range_of}
use Rattle.order_numbers.proofs.Reader.{first_failing, is_given_of, missing_of, both_forms_of, tags_from, out_of_range_of, order_of}
use Rattle.order_numbers.proofs.Reader.{wrong_start_of, first_of, checks_of, reading_of, town_of, Accepted, DateInOrder, read_accepted}
use Rattle.order_numbers.proofs.Reader.{read_passed, read_town, has_required}
use Rattle.float64.specs.Ranges.{inside_of, Inside}
use Rattle.refusals.specs.declared.Refusal.{Refusal}
use Rattle.order_numbers.specs.declared.numbers.OrderNumbers.{OrderNumbers}
use Rattle.order_numbers.specs.Numbers.{set_number_of, order_read, order_numbers_in, order_numbers_of}
use Rattle.order_numbers.specs.Bytes.{byte_for, two_bytes, shift_byte, float_bytes}
use Rattle.order_numbers.specs.Values.{town_bytes, rows_bytes, ramadan_bytes, unsaid, encode}
use Rattle.order_numbers.specs.Promises.{Floats, ReadAs, WrittenAgain}
use Rattle.order_numbers.proofs.Found.{stands_in, value_in}
use Rattle.order_numbers.proofs.KindLaws.{unsigned, word, signed, shift, stored_small, float}
use Rattle.order_numbers.proofs.ValueLaws.{date, rows, minutes, choice_is, ramadan_again}
use Rattle.order_numbers.proofs.Plain.{Plain, Given, given}
use Rattle.order_numbers.proofs.Lengths.{form_encoded}
use Rattle.order_numbers.proofs.RoundTrip.{said, map-said, ramadan-said, encoded, was_read, round_trip}

-- ---- a value in range passes its test
near_fits : (k : ℕ) (z : ℤ) → Near (k + 1) z → (le_z (negsuc k) z && le_z z (pos (k + 1))) ≡ true
near_fits k (pos n) h = simp (to_le (pos n) (pos (k + 1)) (omega (arith, h.to)))
near_fits k (negsuc n) h = simp (to_le (negsuc k) (negsuc n) (omega (arith, h.from)), to_le (negsuc n) (pos (k + 1)) (omega arith))

date_fits_lem : (d : Date) → DateInOrder d → date_fits d ≡ true
date_fits_lem d h = simp (le-leb first_year d.year h.from, le-leb d.year last_year h.to, h.there)

in_most : (n : ℕ) → n ≤ most_rows → n ≤ most_in (rows_bytes n)
unfolding rows_bytes two_bytes
in_most n few = cases (leb n 250) (λ t. simp t (leb-true n 250 t)) (λ t. simp t few)

rows_fit_lem : (d : Date) (n : ℕ) → 1 ≤ n → n ≤ most_rows → (row_date_of d (n - 1)).year ≤ last_year → rows_fit d (rows_bytes n) ≡ true
unfolding rows_fit
rows_fit_lem d n some few last =
    let same = (rows n).is few in
    let most : n ≤ most_in (rows_bytes n) = in_most n few in
    rw same (simp (le-leb 1 n some, le-leb n (most_in (rows_bytes n)) most, le-leb (row_date_of d (n - 1)).year last_year last))

minutes_fit_lem : (m : TimeAdjustment) → ((prayer : Prayer) → Near most_minutes (minutes_for prayer m)) → minutes_fit m ≡ true
unfolding minutes_fit minute_fits minutes_for
minutes_fit_lem m o =
    let one : (z : ℤ) → Near most_minutes z → (le_z (negsuc 719) z && le_z z (pos most_minutes)) ≡ true = λ z h. near_fits 719 z h in
    simp (
      one m.fajr (o Fajr),
      one m.sunrise (o Sunrise),
      one m.dhuhr (o Dhuhr),
      one m.asr (o Asr),
      one m.maghrib (o Maghrib),
      one m.isha (o Isha),
    )

degrees_fit_lem : (low high x : Float) → Plain x → Inside low high x → inside_of low high (degrees_in (float_bytes x)) ≡ true
degrees_fit_lem low high x p i = ap (inside_of low high) (float x p.f64 p.other) ∙ simp (i.0, i.1)

-- ---- each value of a record that was read passes
module _ (order : Order) (a : Accepted order) (g : Given order) where
  abbrev n : OrderNumbers
  n = order_read order

  -- the field of tag 20 is there if the sheet is Ramadan's
  none_is : unsaid n.choices ≡ not order.ramadan.set
  unfolding order_read set_number_of unsaid
  none_is = cases order.ramadan.set (λ t. simp t) (λ t. simp (t, (g.unset t).0, (g.unset t).1))

  shift-read : order.ramadan.set ≡ true → (ramadan_given (ramadan_bytes n.choices)).shift ≡ order.ramadan.shift
  unfolding order_read set_number_of ramadan_given ramadan_bytes
  shift-read t = simp t ((shift order.ramadan.shift).is a.shift)

  ramadan-fits : order.ramadan.set ≡ true → ramadan_fits (ramadan_bytes n.choices) ≡ true
  unfolding order_read set_number_of ramadan_fits ramadan_bytes
  ramadan-fits t =
      let r = order.ramadan in
      let few = (unsigned most_imsak 255 r.imsak (lit< tt)).is a.imsak in
      let small = stored_small (shift_byte r.shift) (subst (Near 1) (sym ((shift r.shift).is a.shift)) a.shift) in
      simp (t, le-leb (byte_for r.imsak) most_imsak (omega (arith, a.imsak)), le-leb (shift_byte r.shift) 2 small)

  module _ (town : List ℕ) (printed : printable town ≡ true) (few : length town ≤ longest_town) (part : ℕ → Part) where
    abbrev v : Values
    v = said n town part (unsaid n.choices)

    ramadan-has : v.has 20 ≡ order.ramadan.set
    ramadan-has = (map-said n town part (unsaid n.choices)).2 ∙ ap not none_is ∙ cases order.ramadan.set (λ t. simp t) (λ t. simp t)

    ranged : (tag : ℕ) → fits_of v tag ≡ true → in_range_of v tag ≡ true
    unfolding in_range_of
    ranged tag f = cases (v.has tag) (λ t. simp t f) (λ t. simp t)

    absent : (tag : ℕ) → v.has tag ≡ false → in_range_of v tag ≡ true
    unfolding in_range_of
    absent tag t = simp t

    thirty : ramadan_rows order.ramadan.set (rows_bytes order.rows) ≡ true
    unfolding ramadan_rows
    thirty =
        cases order.ramadan.set
        (λ t. simp t (eq-eqb (rows_in (rows_bytes order.rows)) 30 ((rows order.rows).is a.rows.1 ∙ (a.ramadan t).rows)))
        (λ t. simp t)

    three-in : fits_of v 3 ≡ true
    unfolding order_read fits_of look_up stands_in value_in
    three-in =
        let r = a.rows in
        let fit = rows_fit_lem order.date order.rows r.0 r.1 (a.row (order.rows - 1) (omega arith)).to in
        rw ((date order.date).is a.date, ramadan-has) (simp (fit, thirty))

    twenty-in : in_range_of v 20 ≡ true
    unfolding in_range_of fits_of look_up stands_in value_in
    twenty-in =
        let by : (none : Bool) → unsaid n.choices ≡ none → in_range_of (said n town part none) 20 ≡ true → in_range_of v 20 ≡ true =
        λ none e. subst (λ (u : Bool). in_range_of (said n town part u) 20 ≡ true) (sym e) in
        cases order.ramadan.set (λ t. by false (none_is ∙ ap not t) (ramadan-fits t)) (λ t. by true (none_is ∙ ap not t) refl)

    all_in : (out_of_range_of v).number ≡ 0
    unfolding out_of_range_of first_failing tags_from order_read fits_of look_up interval_fits clock_fits stands_in value_in
    all_in =
        let p = order.setting.parameters in
        let interval = p.isha_interval in
        let i = (word most_interval (P interval) (lit< tt)).is a.parameters.isha_interval.to in
        simp (
          ranged 1 (ap printable (take_all 41 town (omega arith)) ∙ printed),
          ranged 2 (ap date_fits ((date order.date).is a.date) ∙ date_fits_lem order.date a.date),
          ranged 3 three-in,
          ranged 4 (degrees_fit_lem (neg (dec 90 0)) (dec 90 0) order.setting.coordinates.latitude g.latitude a.latitude),
          ranged 5 (degrees_fit_lem (neg (dec 180 0)) (dec 180 0) order.setting.coordinates.longitude g.longitude a.longitude),
          ranged 6 (choice_is 6 _ g.method),
          ranged 7 (choice_is 7 _ g.madhab),
          ranged 8 (choice_is 8 _ g.rule),
          ranged 9 (choice_is 9 _ g.rounding),
          ranged 10 (choice_is 10 _ g.shafaq),
          ranged 11 (ap minutes_fit ((minutes p.adjustments).is a.parameters.own) ∙ minutes_fit_lem p.adjustments a.parameters.own),
          ranged 12 (degrees_fit_lem (dec 0 0) (dec 30 0) p.fajr_angle g.fajr a.parameters.fajr_angle),
          ranged 13 (degrees_fit_lem (dec 0 0) (dec 30 0) p.isha_angle g.isha a.parameters.isha_angle),
          ranged 14 (simp (i, le-leb 0 (P interval) (omega arith), le-leb (P interval) most_interval a.parameters.isha_interval.to)),
          ranged 15 (choice_is 15 _ g.carry),
          ranged 16
              (ap (within most_clock) ((signed most_clock order.clock (lit< tt)).is a.clock) ∙ near_fits 839 order.clock a.clock),
          ranged 17 (choice_is 17 _ g.southern),
          absent 18 (map-said n town part (unsaid n.choices)).0,
          absent 19 (map-said n town part (unsaid n.choices)).1,
          twenty-in,
        )

    none-missing : (missing_of v.has).number ≡ 0
    unfolding missing_of first_failing is_given_of look_up stands_in
    none-missing = refl

    one_form : (both_forms_of v.has).number ≡ 0
    unfolding both_forms_of stands_in
    one_form = let map = map-said n town part (unsaid n.choices) in simp (map.0, map.1)

    date-is : (order_of v).date ≡ order.date
    unfolding order_of order_read stands_in value_in
    date-is = (date order.date).is a.date

    right-start : (wrong_start_of (order_of v).ramadan (order_of v).date).number ≡ 0
    unfolding wrong_start_of ramadan_given
    right-start =
        let read : (none : Bool) → unsaid n.choices ≡ none → (order_of v).ramadan ≡ ramadan_again none n.choices =
        λ none e. ramadan-said n town part (unsaid n.choices) ∙ ap (λ (u : Bool). ramadan_again u n.choices) e in
        cases order.ramadan.set
        (λ t. rw (read false (none_is ∙ ap not t), date-is) (simp (shift-read t, (a.ramadan t).start)))
        (λ t. rw (read true (none_is ∙ ap not t)) refl)

  -- ---- so the bytes are read
  module _ (town : List ℕ) (printed : printable town ≡ true) (some : 1 ≤ length town) (few : length town ≤ longest_town) where
    town-fits : length_fits 1 (length (town_bytes town)) ≡ true
    unfolding length_fits
    town-fits =
        let e : length (town_bytes town) ≡ length town = ap (length {A = ℕ}) (take_all 41 town (omega arith)) in
        simp (le-leb 1 (length (town_bytes town)) (omega arith), le-leb (length (town_bytes town)) longest_town (omega arith))

    pub encoded-read : (order_numbers_of (encode n town)).refusal.number ≡ 0
    unfolding order_numbers_of order_numbers_in order_read reading_of first_of
    encoded-read =
        let s = encode n town in
        let right : (check_of s).number ≡ 0 = ap (λ (r : Refusal). r.number) (form_encoded n town town-fits) in
        let part = (values_of s).part in
        ap (λ (x : Values). (order_numbers_in (first_of (check_of s ∷ checks_of x) (order_of x))).refusal.number) (encoded n town right)
        ∙ simp (
          right,
          none-missing town printed few part,
          one_form town printed few part,
          all_in town printed few part,
          right-start town printed few part,
        )

pub written_again : WrittenAgain
unfolding order_numbers_of order_numbers_in order_read is_given_of look_up
written_again bytes z =
    let read = was_read bytes z in
    let order = read.0 in
    let passed = read_passed bytes order read.1 in
    let named = has_required (values_of bytes).has passed.given 5 (lit< tt) in
    let g = subst Given passed.same (given (values_of bytes) named passed.ranges) in
    let t = read_town bytes order read.1 in
    let town = town_of bytes in
    let floats : Floats (order_read order) = record {
      latitude = g.latitude.f64;
      longitude = g.longitude.f64;
      fajr_angle = g.fajr.f64;
      isha_angle = g.isha.f64;
    } in
    let again = encoded-read order (read_accepted bytes order read.1) g town t.text t.size.0 t.size.1 in
    subst (λ (n : OrderNumbers). ReadAs (encode n town) n town) (sym (ap order_numbers_in read.1))
    (round_trip (order_read order) town floats again)
