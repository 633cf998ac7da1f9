-- Every time is near its date, and its days print as one digit: the statements of specs/Range. Assumes nothing.
use Rattle.std.specs.Prelude.{Err, Ok, Option, Result}
use Rattle.refusals.specs.declared.Refusal.{Refusal}
use Rattle.prelude.proofs.Logic.{◌≡◌, subst, ℕ, ◌-◌, ◌*◌, ◌≤◌, ◌<◌, arith, lit≤, ℤ, pos, negsuc, ◌+ℤ◌, ◌-ℤ◌}
use Rattle.integers.proofs.Integers.{P, N, Between, Near, floor_quot, same, sum, difference, wider, sum_between, difference_between}
use Rattle.integers.proofs.Integers.{natural_between, toward_between}
use Rattle.calendar.specs.{Answers.tomorrow_of, declared.dates.Date.Date}
use Rattle.models.specs.declared.{parameters.Parameters.Parameters, rules.Season.Season, prayer.Prayer.Prayer}
use Rattle.models.specs.declared.prayer.Prayer.TheVariants.{Fajr, Sunrise, Dhuhr, Asr, Maghrib, Isha, Qiyam, FajrTomorrow}
use Rattle.models.specs.{declared.rounding.Rounding.TheVariants.Nearest, Settings.time_adjustments_of}
use Rattle.whole_minutes.proofs.TimesLaws.{rounded_between, adjusted_between}
use Rattle.night_portions.specs.Portions.{middle_of, last_third_of}
use Rattle.night_portions.proofs.PortionsLaws.{middle_inside, last_third_inside}
use Rattle.solar.specs.declared.{times.SolarTime.SolarTime}
use Rattle.schedule.specs.declared.{hours.ThreeSuns.ThreeSuns, hours.RowHours.RowHours}
use Rattle.schedule.specs.declared.{prayer_times.PrayerTimes.PrayerTimes}
use Rattle.schedule.proofs.Schedule.{hours_of, start_of, final_of, fajr_tomorrow_of, middle_of_the_night_of, qiyam_of, from_midnight_of, started_of}
use Rattle.schedule.proofs.Schedule.{started_in, since_from, since_of, time_of, Each}
use Rattle.order.specs.Accepted.{LatitudeInOrder, ParametersInOrder}
use Rattle.schedule_laws.specs.Range.{OfDate, AllOfDate, TimesLieByTheirDate, DaysAreOneDigit}
use Rattle.schedule_laws.proofs.{OrderMinutes.sums-near, Spans.or_between, Spans.final_between}
use Rattle.schedule_laws.proofs.SunSpans.{Days, SunHour, Sun, Three, Row, Hours, hours, fajr-days, isha-days}

-- from 4 days before 0h of the date to before 5 days after it
abbrev Close : ℤ → Type 0
Close x = Between (4 * 86400) (5 * 86400 - 1) x

on_date : (date : Date) {x : ℤ} → Close x → OfDate date (start_of date +ℤ x)
on_date date {x} h =
    let z = start_of date in
    let s = sum z x in
    let d = difference (z +ℤ x) z in
    let e : z +ℤ x -ℤ z ≡ x = same (z +ℤ x -ℤ z) x (omega (arith, d.0, d.1)) in
    record { from = rw e h.from; before = rw e (omega arith) }

started_named : (date : Date) (t : PrayerTimes) → Each Close t → (prayer : Prayer)
    → OfDate date (time_of (started_of (start_of date) t) prayer)
unfolding started_of time_of
started_named date t h Fajr = on_date date h.fajr
started_named date t h Sunrise = on_date date h.sunrise
started_named date t h Dhuhr = on_date date h.dhuhr
started_named date t h Asr = on_date date h.asr
started_named date t h Maghrib = on_date date h.maghrib
started_named date t h Isha = on_date date h.isha
started_named date t h Qiyam = on_date date h.qiyam
started_named date t h FajrTomorrow = on_date date h.fajr_tomorrow

started_close : (date : Date) (t : PrayerTimes) → Each Close t → AllOfDate date (started_of (start_of date) t)
unfolding started_of
started_close date t h =
    record { named = λ prayer. started_named date t h prayer; middle_of_the_night = on_date date h.middle_of_the_night }

-- ---- the middle of the night and qiyam: they are between maghrib and tomorrow's Fajr, and are rounded
abbrev Closer : ℤ → Type 0
Closer x = Between (4 * 86400 - 60) (5 * 86400 - 61) x

module _ {maghrib fajr : ℤ} (m : Closer maghrib) (f : Closer fajr) where
  middle-close : Close (middle_of_the_night_of maghrib fajr)
  unfolding middle_of_the_night_of
  middle-close =
      let small = wider (difference_between f m) (lit≤ tt) (lit≤ tt) in
      rounded_between Nearest (toward_between maghrib fajr (middle_of (fajr -ℤ maghrib)) m f (middle_inside (fajr -ℤ maghrib) small))

  qiyam-close : Close (qiyam_of maghrib fajr)
  unfolding qiyam_of
  qiyam-close =
      let small = wider (difference_between f m) (lit≤ tt) (lit≤ tt) in
      rounded_between Nearest (toward_between maghrib fajr (last_third_of (fajr -ℤ maghrib)) m f (last_third_inside (fajr -ℤ maghrib) small))

-- ---- the nine
module _ (p : Parameters) (allowed : ParametersInOrder p) (season : Season) (there : LatitudeInOrder season.latitude) (date : Date) where
  minutes : (prayer : Prayer) → Near 727 (time_adjustments_of p prayer)
  minutes prayer = sums-near p allowed prayer

  -- a time of the sun, adjusted and rounded
  final : (prayer : Prayer) {x : ℤ} → Days 1 2 x → Closer (final_of p prayer x)
  final prayer h = wider (final_between p prayer h (minutes prayer)) (lit≤ tt) (lit≤ tt)

  -- the next date's Fajr, from 0h of this date
  tomorrow : (today next : SolarTime) (hour : Option ℤ) → Sun today → Sun next → SunHour hour
      → Closer (fajr_tomorrow_of p season date today next hour)
  unfolding fajr_tomorrow_of
  tomorrow today next hour a b h =
      wider (sum_between (adjusted_between (fajr-days p season allowed there (tomorrow_of date) today next a b hour h) (minutes Fajr))
      (natural_between 86400)) (lit≤ tt) (lit≤ tt)

  nine : (suns : ThreeSuns) (h : RowHours) → Three suns → Hours h → Each Close (from_midnight_of p season date suns h)
  unfolding from_midnight_of
  nine suns h three k =
      let sun = three.today in
      let next = three.tomorrow in
      let m = final Maghrib sun.sunset in
      let f = tomorrow suns.tomorrow suns.after h.fajr_tomorrow next three.after k.fajr_tomorrow in
      record {
        fajr = wider (final_between p Fajr (fajr-days p season allowed there date suns.today suns.tomorrow sun next h.fajr
            k.fajr) (minutes Fajr)) (lit≤ tt) (lit≤ tt);
        sunrise = wider (final Sunrise sun.sunrise) (lit≤ tt) (lit≤ tt);
        dhuhr = wider (final Dhuhr sun.transit) (lit≤ tt) (lit≤ tt);
        asr = wider (final Asr (or_between h.asr k.asr sun.transit)) (lit≤ tt) (lit≤ tt);
        maghrib = wider m (lit≤ tt) (lit≤ tt);
        isha = wider (final_between p Isha (isha-days p season allowed there date suns.today suns.tomorrow sun next h.isha
            k.isha) (minutes Isha)) (lit≤ tt) (lit≤ tt);
        middle_of_the_night = middle-close m f;
        qiyam = qiyam-close m f;
        fajr_tomorrow = wider f (lit≤ tt) (lit≤ tt);
      }

  worked : (s : Result ThreeSuns Refusal) (h : RowHours) (t : PrayerTimes) → Row s → Hours h → started_in date (since_from s h date season p) ≡ Ok t
      → AllOfDate date t
  unfolding started_in since_from
  worked (Err r) h t x k e = let w : ◌≡◌ {A = ℕ} 0 1 = cc in absurd (omega arith)
  worked (Ok suns) h t x k e =
      let same_times : started_of (start_of date) (from_midnight_of p season date suns h) ≡ t = cc in
      subst (AllOfDate date) same_times (started_close date (from_midnight_of p season date suns h) (nine suns h x k))

pub times_lie_by_their_date : TimesLieByTheirDate
unfolding since_of
times_lie_by_their_date rule n date season p t there allowed e =
    let h = hours rule n in
    worked p allowed season there date (hours_of rule n).suns (hours_of rule n) t h.suns h e

pub days_are_one_digit : DaysAreOneDigit
days_are_one_digit date time h = by_sign (time -ℤ start_of date) h.from h.before
  where
    by_sign : (z : ℤ) → N z ≤ 4 * 86400 → P z < 5 * 86400 → Near 4 (floor_quot z 86400)
    by_sign (pos a) l u = record { from = omega arith; to = omega arith }
    by_sign (negsuc a) l u = record { from = omega arith; to = omega arith }
