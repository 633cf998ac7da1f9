-- After an order is read, a caller may rely on this: its record is as Accepted.antt says. Assumes nothing.
use Rattle.std.specs.Prelude.{Ok}
use Rattle.prelude.proofs.Logic.{◌≡◌, refl, sym, ap, subst, true, ◌&&◌, ◌||◌, List, ℕ, ◌+◌, ◌-◌, ◌≤◌, ◌<◌, arith, leb, lit≤, ℤ, pos, negsuc}
use Rattle.prelude.proofs.Logic.{◌-ℤ◌, get_or, le_z, leb-true, eqb-true, arms, cases, both}
use Rattle.float64.proofs.Floats.{Float, neg, le, round, dec, Inside}
use Rattle.integers.proofs.Integers.{P, N, Between, Near, by_balance, le_yes, difference}
use Rattle.calendar.specs.declared.dates.Date.{Date}
use Rattle.calendar.proofs.Calendar.{exists_of, row_date_of, day_number_of}
use Rattle.fields.specs.Numbers.{byte_of, unsigned_of, signed_at_of}
use Rattle.fields.specs.Values.{Values, values_of}
use Rattle.fields.specs.Tags.{last_tag}
use Rattle.hijri.specs.Ramadan.{ramadan_start_of}
use Rattle.hijri.specs.declared.ramadan.Ramadan.{Ramadan}
use Rattle.map_form.specs.Hundredths.{signed_hundredths_of, degrees_of, form_fits}
use Rattle.map_form.proofs.Limits.{in_limits}
use Rattle.map_form.proofs.RoundTrip.{read_in_range}
use Rattle.models.specs.declared.{adjustments.TimeAdjustment.TimeAdjustment, method.Method.Method, prayer.Prayer.Prayer}
use Rattle.models.specs.declared.method.Method.TheVariants.{MuslimWorldLeague, Egyptian, Karachi, UmmAlQura, Dubai, MoonsightingCommittee}
use Rattle.models.specs.declared.method.Method.TheVariants.{NorthAmerica, Kuwait, Qatar, Singapore, Tehran, Turkey, Other}
use Rattle.models.specs.declared.prayer.Prayer.TheVariants.{Fajr, Sunrise, Dhuhr, Asr, Maghrib, Isha, Qiyam, FajrTomorrow}
use Rattle.models.proofs.Models.{no_minutes, method_of, preset, preset_of, minutes_for}
use Rattle.order.specs.declared.reading.Order.{Order}
use Rattle.order.specs.Given.{date_in, rows_in, degrees_in, form_in, coordinate_in, minutes_in, degrees_or, minutes_or, interval_or}
use Rattle.order.specs.Given.{parameters_in, clock_in, ramadan_given, ramadan_in}
use Rattle.order.specs.Ranges.{most_rows, most_in, date_fits, rows_fit, degrees_fit, minute_fits, minutes_fit, interval_fits, clock_fits}
use Rattle.order.specs.Ranges.{ramadan_fits, ramadan_rows, look_up, fits_of}
use Rattle.order.specs.Reading.{required, is_given_of, missing_of, out_of_range_of, order_of, wrong_start_of, reading_of}
use Rattle.order.specs.Accepted.{DateInOrder, Accepted}
use Rattle.order.proofs.RowDates.{row-in-order, most_few}
use Rattle.order.proofs.ReadingLaws.{read_passed, has_required, one_form, fits_given}

of_natural : {n : ℕ} → n ≤ 1440 → Between 0 1440 (pos n)
of_natural h = record { from = lit≤ tt; to = h }

-- ---- what follows from each test
degrees_inside : (low high : Float) (v : List ℕ) → degrees_fit low high v ≡ true → Inside low high (degrees_in v)
degrees_inside low high v e = both (le low (degrees_in v)) (le (degrees_in v) high) e

date_in_lem : (d : Date) → date_fits d ≡ true → DateInOrder d
date_in_lem d e =
    let a = both (leb 1900 d.year && leb d.year 2199) (exists_of d) e in
    let b = both (leb 1900 d.year) (leb d.year 2199) a.0 in
    record { there = a.1; from = leb-true 1900 d.year b.0; to = leb-true d.year 2199 b.1 }

rows_in_lem : (d : Date) (v : List ℕ) → rows_fit d v ≡ true
    → ((1 ≤ rows_in v) × (rows_in v ≤ most_rows)) × ((row_date_of d (rows_in v - 1)).year ≤ 2199)
unfolding rows_fit
rows_in_lem d v e =
    let n = rows_in v in
    let a = both (leb 1 n && leb n (most_in v)) (leb (row_date_of d (n - 1)).year 2199) e in
    let b = both (leb 1 n) (leb n (most_in v)) a.0 in
    let l = leb-true n (most_in v) b.1 in
    let m = most_few v in
    ((leb-true 1 n b.0, omega arith), leb-true (row_date_of d (n - 1)).year 2199 a.1)

-- from -(k + 1) to k + 1
signed_within : (k : ℕ) (m : ℤ) → (le_z (negsuc k) m && le_z m (pos (k + 1))) ≡ true → Near (k + 1) m
signed_within k m e =
    let a = both (le_z (negsuc k) m) (le_z m (pos (k + 1))) e in
    go m (le_yes (negsuc k) m a.0) (le_yes m (pos (k + 1)) a.1)
  where
    go : (z : ℤ) → P (negsuc k) + N z ≤ P z + N (negsuc k) → P z + N (pos (k + 1)) ≤ P (pos (k + 1)) + N z → Near (k + 1) z
    go (pos n) l h = record { from = omega arith; to = omega arith }
    go (negsuc n) l h = record { from = omega arith; to = omega arith }

minute_within : (m : ℤ) → minute_fits m ≡ true → Near 720 m
unfolding minute_fits
minute_within m e = signed_within 719 m e

minutes_within : (m : TimeAdjustment) → minutes_fit m ≡ true → (prayer : Prayer) → Near 720 (minutes_for prayer m)
unfolding minutes_fit minutes_for
minutes_within m e prayer =
    let isha = both (minute_fits m.fajr && minute_fits m.sunrise && minute_fits m.dhuhr && minute_fits m.asr
    && minute_fits m.maghrib) (minute_fits m.isha) e in
    let maghrib = both (minute_fits m.fajr && minute_fits m.sunrise && minute_fits m.dhuhr && minute_fits m.asr)
    (minute_fits m.maghrib) isha.0 in
    let asr = both (minute_fits m.fajr && minute_fits m.sunrise && minute_fits m.dhuhr) (minute_fits m.asr) maghrib.0 in
    let dhuhr = both (minute_fits m.fajr && minute_fits m.sunrise) (minute_fits m.dhuhr) asr.0 in
    let first = both (minute_fits m.fajr) (minute_fits m.sunrise) dhuhr.0 in
    go prayer first.0 first.1 dhuhr.1 asr.1 maghrib.1 isha.1
  where
    go : (prayer : Prayer) → minute_fits m.fajr ≡ true → minute_fits m.sunrise ≡ true → minute_fits m.dhuhr ≡ true
        → minute_fits m.asr ≡ true → minute_fits m.maghrib ≡ true → minute_fits m.isha ≡ true → Near 720 (minutes_for prayer m)
    go Fajr a b c d e f = minute_within m.fajr a
    go Sunrise a b c d e f = minute_within m.sunrise b
    go Dhuhr a b c d e f = minute_within m.dhuhr c
    go Asr a b c d e f = minute_within m.asr d
    go Maghrib a b c d e f = minute_within m.maghrib e
    go Isha a b c d e f = minute_within m.isha f
    go Qiyam a b c d e f = record { from = lit≤ tt; to = lit≤ tt }
    go FajrTomorrow a b c d e f = record { from = lit≤ tt; to = lit≤ tt }

-- ---- what a tag gives, or what is read if it is missing, is in range
module _ (v : Values) where
  angle-or : (tag : ℕ) (missing : Float) → (v.has tag ≡ true → degrees_fit (dec 0 0) (dec 30 0) (v.value tag) ≡ true)
      → Inside (dec 0 0) (dec 30 0) missing → Inside (dec 0 0) (dec 30 0) (degrees_or v tag missing)
  unfolding degrees_or
  angle-or tag missing fits otherwise =
      arms (Inside (dec 0 0) (dec 30 0)) (v.has tag) (λ t. degrees_inside (dec 0 0) (dec 30 0) (v.value tag) (fits t)) (λ t. otherwise)

  -- a coordinate in either form
  coordinate : (float map most : ℕ) → most ≤ 180 → (v.has float || v.has map) ≡ true
      → (v.has float ≡ true → degrees_fit (neg (dec most 0)) (dec most 0) (v.value float) ≡ true)
      → (v.has map ≡ true → form_fits most (form_in (v.value map)) ≡ true)
      → Inside (neg (dec most 0)) (dec most 0) (coordinate_in v float map)
  unfolding coordinate_in
  coordinate float map most small either as-float as-map =
      arms (Inside (neg (dec most 0)) (dec most 0)) (v.has map)
      (λ m. in_limits (degrees_of (signed_hundredths_of (form_in (v.value map)))) most small
      (read_in_range most small (form_in (v.value map)) (as-map m)))
      (λ m. degrees_inside (neg (dec most 0)) (dec most 0) (v.value float) (as-float (one_form v.has float map either m)))

  interval-or : (missing : ℤ) → (v.has 14 ≡ true → interval_fits (v.value 14) ≡ true) → Between 0 1440 missing
      → Between 0 1440 (interval_or v missing)
  unfolding interval_or interval_fits
  interval-or missing fits otherwise =
      let n = unsigned_of (v.value 14) 0 in
      arms (Between 0 1440) (v.has 14) (λ t. of_natural (leb-true n 1440 (both (leb 0 n) (leb n 1440) (fits t)).1)) (λ t. otherwise)

  clock-in : (v.has 16 ≡ true → clock_fits (v.value 16) ≡ true) → Near 840 (clock_in v)
  unfolding clock_in clock_fits
  clock-in fits =
      arms (Near 840) (v.has 16) (λ t. signed_within 839 (signed_at_of (v.value 16) 0) (fits t))
      (λ t. record { from = lit≤ tt; to = lit≤ tt })

  minutes-or : (v.has 11 ≡ true → minutes_fit (minutes_in (v.value 11)) ≡ true) → (prayer : Prayer)
      → Near 720 (minutes_for prayer (minutes_or v no_minutes))
  unfolding minutes_or minutes_fit minute_fits
  minutes-or fits prayer =
      arms (λ (m : TimeAdjustment). Near 720 (minutes_for prayer m)) (v.has 11)
      (λ t. minutes_within (minutes_in (v.value 11)) (fits t) prayer) (λ t. minutes_within no_minutes refl prayer)

  ramadan-in : (v.has 20 ≡ true → ramadan_fits (v.value 20) ≡ true) → ((ramadan_in v).imsak ≤ 30) × Near 1 (ramadan_in v).shift
  unfolding ramadan_in ramadan_given ramadan_fits
  ramadan-in fits =
      let m = byte_of (v.value 20) 0 in
      let k = byte_of (v.value 20) 1 in
      arms (λ (r : Ramadan). (r.imsak ≤ 30) × Near 1 r.shift) (v.has 20)
      (λ t. let e = both (leb m 30) (leb k 2) (fits t) in
      let l = leb-true k 2 e.1 in
      let d = difference (pos k) (pos 1) in
      (leb-true m 30 e.0, by_balance 1 1 (pos k -ℤ pos 1) (omega (arith, d.0, d.1)) (omega (arith, d.0, d.1))))
      (λ t. (lit≤ tt, record { from = lit≤ tt; to = lit≤ tt }))

  -- Ramadan is set if tag 20 is there
  ramadan-set : (ramadan_in v).set ≡ true → v.has 20 ≡ true
  unfolding ramadan_in ramadan_given
  ramadan-set e = cases (v.has 20) (λ t. t) (λ t. cc)

  thirty : ramadan_rows (v.has 20) (v.value 3) ≡ true → v.has 20 ≡ true → rows_in (v.value 3) ≡ 30
  unfolding ramadan_rows
  thirty e has = eqb-true (rows_in (v.value 3)) 30 (simp has at e)

started : (ramadan : Ramadan) (date : Date) → (wrong_start_of ramadan date).number ≡ 0 → ramadan.set ≡ true
    → ramadan_start_of (day_number_of date) ramadan.shift ≡ true
unfolding wrong_start_of
started ramadan date e set =
    let start = ramadan_start_of (day_number_of date) ramadan.shift in
    cases start (λ t. t) (λ t. let z : ◌≡◌ {A = ℕ} 18 0 = simp (set, t) at e in absurd (omega arith))

-- the angles and the interval of a method's preset are in range, and the preset has the method's name
pub record Brought (method : Method) : Type 0 where
  pub named : (preset_of method).method ≡ method
  pub fajr : Inside (dec 0 0) (dec 30 0) (preset_of method).fajr_angle
  pub isha : Inside (dec 0 0) (dec 30 0) (preset_of method).isha_angle
  pub interval : Between 0 1440 (preset_of method).isha_interval

pub brought : (method : Method) → Brought method
unfolding preset_of preset dec round le
brought MuslimWorldLeague = record { named = refl; fajr = (refl, refl); isha = (refl, refl); interval = of_natural (lit≤ tt) }
brought Egyptian = record { named = refl; fajr = (refl, refl); isha = (refl, refl); interval = of_natural (lit≤ tt) }
brought Karachi = record { named = refl; fajr = (refl, refl); isha = (refl, refl); interval = of_natural (lit≤ tt) }
brought UmmAlQura = record { named = refl; fajr = (refl, refl); isha = (refl, refl); interval = of_natural (lit≤ tt) }
brought Dubai = record { named = refl; fajr = (refl, refl); isha = (refl, refl); interval = of_natural (lit≤ tt) }
brought MoonsightingCommittee = record { named = refl; fajr = (refl, refl); isha = (refl, refl); interval = of_natural (lit≤ tt) }
brought NorthAmerica = record { named = refl; fajr = (refl, refl); isha = (refl, refl); interval = of_natural (lit≤ tt) }
brought Kuwait = record { named = refl; fajr = (refl, refl); isha = (refl, refl); interval = of_natural (lit≤ tt) }
brought Qatar = record { named = refl; fajr = (refl, refl); isha = (refl, refl); interval = of_natural (lit≤ tt) }
brought Singapore = record { named = refl; fajr = (refl, refl); isha = (refl, refl); interval = of_natural (lit≤ tt) }
brought Tehran = record { named = refl; fajr = (refl, refl); isha = (refl, refl); interval = of_natural (lit≤ tt) }
brought Turkey = record { named = refl; fajr = (refl, refl); isha = (refl, refl); interval = of_natural (lit≤ tt) }
brought Other = record { named = refl; fajr = (refl, refl); isha = (refl, refl); interval = of_natural (lit≤ tt) }

-- ---- the record
accepted : (v : Values) → (missing_of v.has).number ≡ 0 → (out_of_range_of v).number ≡ 0
    → (wrong_start_of (order_of v).ramadan (order_of v).date).number ≡ 0 → Accepted (order_of v)
unfolding order_of parameters_in fits_of look_up is_given_of
accepted v given ranges start =
    let method = method_of (byte_of (v.value 6) 0) in
    let from = brought method in
    let three = both (rows_fit (date_in (v.value 2)) (v.value 3)) (ramadan_rows (v.has 20) (v.value 3))
    (fits 3 (lit≤ tt) (lit≤ tt) (has 2 (lit≤ tt))) in
    let rows = rows_in_lem (date_in (v.value 2)) (v.value 3) three.0 in
    let ramadan = ramadan-in v (fits 20 (lit≤ tt) (lit≤ tt)) in
    let date = date_in_lem (date_in (v.value 2)) (fits 2 (lit≤ tt) (lit≤ tt) (has 1 (lit≤ tt))) in
    record {
      date = date;
      rows = rows.0;
      row = λ (row : ℕ) (l : row < rows_in (v.value 3)). row-in-order (date_in (v.value 2)) date.there date.from
          (rows_in (v.value 3) - 1) row rows.1 (omega arith);
      latitude = coordinate v 4 18 90 (lit≤ tt) (has 3 (lit≤ tt)) (fits 4 (lit≤ tt) (lit≤ tt)) (fits 18 (lit≤ tt) (lit≤ tt));
      longitude = coordinate v 5 19 180 (lit≤ tt) (has 4 (lit≤ tt)) (fits 5 (lit≤ tt) (lit≤ tt)) (fits 19 (lit≤ tt) (lit≤ tt));
      parameters = record {
        fajr_angle = angle-or v 12 (preset_of method).fajr_angle (fits 12 (lit≤ tt) (lit≤ tt)) from.fajr;
        isha_angle = angle-or v 13 (preset_of method).isha_angle (fits 13 (lit≤ tt) (lit≤ tt)) from.isha;
        isha_interval = interval-or v (preset_of method).isha_interval (fits 14 (lit≤ tt) (lit≤ tt)) from.interval;
        own = minutes-or v (fits 11 (lit≤ tt) (lit≤ tt));
        preset = ap (λ (m : Method). (preset_of m).method_adjustments) (sym from.named);
      };
      clock = clock-in v (fits 16 (lit≤ tt) (lit≤ tt));
      imsak = ramadan.0;
      shift = ramadan.1;
      ramadan =
          λ (set : (ramadan_in v).set ≡ true).
          record { rows = thirty v three.1 (ramadan-set v set); start = started (ramadan_in v) (date_in (v.value 2)) start set };
    }
  where
    has : (i : ℕ) → i < 6 → is_given_of v.has (get_or required i 0) ≡ true
    has = has_required v.has given

    fits : (tag : ℕ) → 1 ≤ tag → tag ≤ last_tag → v.has tag ≡ true → fits_of v tag ≡ true
    fits = fits_given v ranges

pub read_accepted : (s : List ℕ) (order : Order) → reading_of s ≡ Ok order → Accepted order
read_accepted s order e =
    let passed = read_passed s order e in
    subst Accepted passed.same (accepted (values_of s) passed.given passed.ranges passed.start)
