-- Demand 3: from the bytes of two orders to the parameters of one row's day, for which crates/schedule_laws proves it. Assumes nothing.
use Rattle.std.specs.Prelude.{Err, Ok, Option, Result}
use Rattle.prelude.proofs.Logic.{◌≡◌, refl, sym, ap, subst, ◌∙◌, true, ◌&&◌, List, ℕ, ◌*◌, ◌<◌, ◌^◌, arith, ltb}
use Rattle.prelude.proofs.Logic.{leb, ℤ, pos, ◌+ℤ◌, ◌-ℤ◌, le_z, leb-true, both, cases}
use Rattle.integers.proofs.Integers.{P, N, Near, same, sum, difference, le_yes, to_le}
use Rattle.calendar.specs.Answers.{row_date_of}
use Rattle.fields.specs.declared.values.Part.{Part}
use Rattle.models.specs.declared.{adjustments.TimeAdjustment.TimeAdjustment, parameters.Parameters.Parameters, prayer.Prayer.Prayer}
use Rattle.hijri.specs.declared.ramadan.Ramadan.{Ramadan}
use Rattle.lines.specs.Lines.{imsak_of}
use Rattle.models.specs.declared.prayer.Prayer.TheVariants.{Fajr}
use Rattle.refusals.specs.declared.Refusal.{Refusal}
use Rattle.models.specs.Settings.{time_adjustments_of}
use Rattle.order.specs.{declared.reading.Order.Order, Accepted.Accepted, Reading.reading_of}
use Rattle.order.proofs.AcceptedLaws.{read_accepted}
use Rattle.schedule.specs.declared.{in_force.Instant.Instant, prayer_times.PrayerTimes.PrayerTimes}
use Rattle.schedule.proofs.Schedule.{current_time_of}
use Rattle.schedule_laws.specs.Later.{with_minutes, later_by, LaterMinutes, Moved}
use Rattle.schedule_laws.proofs.OrderMinutes.{sums-held}
use Rattle.order_laws.proofs.PrintedLaws.{row_imsak}
use Rattle.schedule_laws.proofs.LaterLaws.{refused_alike, later_minutes_move_the_row}
use Rattle.days.specs.Calls.{lacks_row, work_row_of, work_reading_of, work_day_of, least_seconds, most_seconds, most_nanoseconds, instant_fits}
use Rattle.days.specs.Calls.{work_at_of, in_force_of, prayer_at_of}
use Rattle.order_laws.specs.Minutes.{with_own_minutes, LaterOrder, ImsakMoved, LaterOrdersMoveTheirRows}

-- ---- what an accepted order's sums can be
held : (order : Order) → Accepted order → (prayer : Prayer) → Near (2 ^ 32) (time_adjustments_of order.setting.parameters prayer)
held order h = sums-held order.setting.parameters h.parameters

-- ---- a day
module _ (first : Order) (town : Part) (minutes : TimeAdjustment) (row : ℕ) where
  second : Order
  second = with_own_minutes first town minutes

  row_moved : Accepted first → Accepted second
      → ((prayer : Prayer)
      → le_z (time_adjustments_of first.setting.parameters prayer) (time_adjustments_of second.setting.parameters prayer) ≡ true)
      → Moved first.setting.parameters second.setting.parameters (work_row_of first row) (work_row_of second row)
  unfolding work_row_of second
  row_moved h k more =
      let p = first.setting.parameters in
      let q = with_minutes p minutes in
      let later : LaterMinutes p q = record { alike = refl; more = more; first_held = held first h; second_held = held second k } in
      cases (ltb row first.rows)
      (λ t. simp t
      (later_minutes_move_the_row (row_date_of first.date row) first.setting.coordinates first.setting.rules p q later))
      (λ t. simp t (refused_alike p q lacks_row))

-- ---- what naming the prayer returns
prayer_times : (w : Result PrayerTimes Refusal) (i : Instant) (x : Option Prayer) → in_force_of w i ≡ Ok x
    → (times : PrayerTimes) × (w ≡ Ok times) × (current_time_of times i ≡ x)
unfolding in_force_of
prayer_times (Ok t) i x e = (t, refl, cc)
prayer_times (Err r) i x e = let z : ◌≡◌ {A = ℕ} 0 1 = cc in absurd (omega arith)

refused_day : (w : Result PrayerTimes Refusal) (i : Instant) (r : Refusal) → in_force_of w i ≡ Err r → w ≡ Err r
unfolding in_force_of
refused_day (Ok t) i r e = cc
refused_day (Err x) i r e = cc

day_refused : (w : Result PrayerTimes Refusal) (i : Instant) (r : Refusal) → w ≡ Err r → in_force_of w i ≡ Err r
unfolding in_force_of
day_refused w i r e = ap (λ (x : Result PrayerTimes Refusal). in_force_of x i) e

asked : (s : List ℕ) (row : ℕ) (i : Instant) → instant_fits i ≡ true → prayer_at_of s row i ≡ in_force_of (work_day_of s row) i
unfolding prayer_at_of work_at_of
asked s row i h = rw h

-- a day that is refused at one instant is refused at every other
refused_at_every : (s z : List ℕ) (row : ℕ) (i j : Instant) (r : Refusal) → instant_fits i ≡ true → instant_fits j ≡ true
    → (work_day_of s row ≡ Err r → work_day_of z row ≡ Err r) → prayer_at_of s row i ≡ Err r
    → prayer_at_of z row j ≡ Err r
refused_at_every s z row i j r hi hj alike e =
    asked z row j hj ∙ day_refused (work_day_of z row) j r (alike (refused_day (work_day_of s row) i r (sym (asked s row i hi) ∙ e)))

less_than_a_second : (i : Instant) → instant_fits i ≡ true → i.nanoseconds < 1000000000
unfolding instant_fits
less_than_a_second i h =
    let l = leb-true i.nanoseconds most_nanoseconds
    (both (le_z least_seconds i.seconds && le_z i.seconds most_seconds) (leb i.nanoseconds most_nanoseconds) h).1 in
    omega arith

-- ---- the theorem
day_of_lem : (s : List ℕ) (o : Order) (row : ℕ) → reading_of s ≡ Ok o → work_day_of s row ≡ work_row_of o row
unfolding work_day_of work_reading_of
day_of_lem s o row e = ap (λ (x : Result Order Refusal). work_reading_of x row) e

module _ (a b : List ℕ) (orders : LaterOrder a b) (row : ℕ) where
  p : Parameters
  p = orders.first.setting.parameters

  q : Parameters
  q = orders.second.setting.parameters

  day : Moved p q (work_day_of a row) (work_day_of b row)
  unfolding p q second
  day =
      let first = orders.first in
      let Later : Order → Type 0 = λ o. (prayer : Prayer)
      → le_z (time_adjustments_of first.setting.parameters prayer) (time_adjustments_of o.setting.parameters prayer) ≡ true in
      rw (day_of_lem a first row orders.first_read, day_of_lem b orders.second row orders.second_read)
      (subst (λ (o : Order). Accepted o → Later o
      → Moved first.setting.parameters o.setting.parameters (work_row_of first row) (work_row_of o row)) orders.alike
      (row_moved first orders.second.town orders.second.setting.parameters.adjustments row
      (read_accepted a first orders.first_read))
      (read_accepted b orders.second orders.second_read) orders.more)

-- imsak is Fajr less the same minutes on both sheets
shifted : (f g d : ℤ) (m : ℕ) → g ≡ f +ℤ d → g -ℤ pos m ≡ (f -ℤ pos m) +ℤ d
shifted f g d m e =
    let a = difference g (pos m) in
    let b = difference f (pos m) in
    let s = sum f d in
    let r = sum (f -ℤ pos m) d in
    same (g -ℤ pos m) ((f -ℤ pos m) +ℤ d) (omega (arith, a.0, a.1, b.0, b.1, ap P e, ap N e))

kept : (f g : ℤ) (m : ℕ) → le_z f g ≡ true → le_z (f -ℤ pos m) (g -ℤ pos m) ≡ true
kept f g m h =
    let l = le_yes f g h in
    let a = difference g (pos m) in
    let b = difference f (pos m) in
    to_le (f -ℤ pos m) (g -ℤ pos m) (omega (arith, a.0, a.1, b.0, b.1))

module _ (a b : List ℕ) (orders : LaterOrder a b) (row : ℕ) (t u : PrayerTimes)
    (at : work_day_of a row ≡ Ok t) (bu : work_day_of b row ≡ Ok u) where
  ramadan-same : orders.second.ramadan ≡ orders.first.ramadan
  ramadan-same = sym (ap (λ (o : Order). o.ramadan) orders.alike)

  m : ℕ
  m = 60 * orders.first.ramadan.imsak

  first-imsak : imsak_of orders.first.ramadan.imsak t.fajr ≡ t.fajr -ℤ pos m
  unfolding m
  first-imsak =
      row_imsak orders.first row t (read_accepted a orders.first orders.first_read)
      (sym (day_of_lem a orders.first row orders.first_read) ∙ at)

  second-imsak : imsak_of orders.second.ramadan.imsak u.fajr ≡ u.fajr -ℤ pos m
  unfolding m
  second-imsak =
      row_imsak orders.second row u (read_accepted b orders.second orders.second_read)
      (sym (day_of_lem b orders.second row orders.second_read) ∙ bu)
      ∙ ap (λ (r : Ramadan). u.fajr -ℤ pos (60 * r.imsak)) ramadan-same

  imsak-moved : ImsakMoved orders.first orders.second t u
  unfolding p q
  imsak-moved =
      let moved = day a b orders row in
      let exact = (moved.exactly_later t u at bu).fajr in
      let none = (moved.none_earlier t u at bu).fajr in
      record {
        same = ramadan-same;
        not_earlier = rw (first-imsak, second-imsak) (kept t.fajr u.fajr m none);
        exactly = rw (first-imsak, second-imsak)
            (shifted t.fajr u.fajr (later_by orders.first.setting.parameters orders.second.setting.parameters Fajr) m exact);
      }

pub later_orders_move_their_rows : LaterOrdersMoveTheirRows
unfolding p q
later_orders_move_their_rows a b orders row =
    let moved = day a b orders row in
    record {
      day = moved;
      imsak = imsak-moved a b orders row;
      in_force = λ t u ht hu after x y ex ey.
          let f = prayer_times (work_day_of a row) t x (sym (asked a row t ht) ∙ ex) in
          let g = prayer_times (work_day_of b row) u y (sym (asked b row u hu) ∙ ey) in
          let l = moved.in_force f.0 g.0 f.1 g.1 t u (less_than_a_second u hu) after in
          rw (← f.2, ← g.2) l;
      in_force_refused = λ t u ht hu r e. refused_at_every a b row t u r ht hu (moved.refused r) e;
      in_force_refused_too = λ t u ht hu r e. refused_at_every b a row u t r hu ht (moved.refused_too r) e;
    }
