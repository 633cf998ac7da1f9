-- What a school's later minutes do to a day: the statement of specs/Later. Assumes nothing.
use Rattle.std.specs.Prelude.{Err, Ok, Result}
use Rattle.schedule.specs.declared.hours.ThreeSuns.{ThreeSuns}
use Rattle.prelude.proofs.Logic.{◌≡◌, sym, ap, subst, ℕ, ◌^◌, ◌<◌, arith}
use Rattle.integers.proofs.Integers.{Near, ◌≼◌, le_yes}
use Rattle.calendar.specs.declared.dates.Date.{Date}
use Rattle.models.specs.declared.{adjustments.TimeAdjustment.TimeAdjustment, parameters.Parameters.Parameters, rules.Season.Season}
use Rattle.models.specs.declared.{prayer.Prayer.Prayer, rules.Midnight.Midnight}
use Rattle.refusals.specs.declared.Refusal.{Refusal}
use Rattle.models.specs.Settings.{time_adjustments_of}
use Rattle.schedule.specs.declared.{hours.RowHours.RowHours, hours.RowNumbers.RowNumbers}
use Rattle.schedule.specs.declared.{prayer_times.PrayerTimes.PrayerTimes, in_force.Instant.Instant}
use Rattle.schedule.specs.InForce.{in_second}
use Rattle.schedule.proofs.Schedule.{hours_of, NotAfter, numbers_of, started_in, since_from, since_of, season_of, setting_of, worked_of}
use Rattle.schedule_laws.specs.Later.{with_minutes, LaterMinutes, NoneEarlier, ExactlyLater, Moved, LaterMinutesMoveTheDay}
use Rattle.schedule_laws.specs.Later.{LaterMinutesMoveTheRow}
use Rattle.schedule_laws.proofs.SunSpans.{SunHour, Row, hours}
use Rattle.schedule_laws.proofs.{Moves.exactly, Moves.none-earlier, InForceLaws.to-nanoseconds, InForceLaws.in_force_no_later}

-- a day is either refused or worked
never : (r : Refusal) (t : PrayerTimes) → Err r ≡ Ok t → ⊥
never r t e = let z : ◌≡◌ {A = ℕ} 0 1 = cc in omega arith

-- ---- the day, refused or worked
pub refused_alike : (p q : Parameters) (x : Refusal) → Moved p q (Err x) (Err x)
refused_alike p q x =
    record {
      refused = λ r e. e;
      refused_too = λ r e. e;
      none_earlier = λ t u e f. absurd (never x t e);
      exactly_later = λ t u e f. absurd (never x t e);
      in_force = λ t u e f. absurd (never x t e);
    }

worked_alike : (p q : Parameters) (x y : PrayerTimes) → NoneEarlier x y → ExactlyLater p q x y → Moved p q (Ok x) (Ok y)
worked_alike p q x y none exact =
    record {
      refused = λ (r : Refusal) (e : Ok x ≡ Err r). absurd (never r x (sym e));
      refused_too = λ (r : Refusal) (e : Ok y ≡ Err r). absurd (never r y (sym e));
      none_earlier = λ (t u : PrayerTimes) (e : Ok x ≡ Ok t) (f : Ok y ≡ Ok u).
          let a : x ≡ t = cc in let b : y ≡ u = cc in rw (← a, ← b) none;
      exactly_later = λ (t u : PrayerTimes) (e : Ok x ≡ Ok t) (f : Ok y ≡ Ok u).
          let a : x ≡ t = cc in let b : y ≡ u = cc in rw (← a, ← b) exact;
      in_force = λ (t u : PrayerTimes) (e : Ok x ≡ Ok t) (f : Ok y ≡ Ok u) (i j : Instant) (h : j.nanoseconds < in_second)
          (l : NotAfter j i).
          let a : x ≡ t = cc in let b : y ≡ u = cc in in_force_no_later t u i j (rw (← a, ← b) none) (to-nanoseconds j i h l);
    }

module _ (p : Parameters) (minutes : TimeAdjustment)
    (more : (prayer : Prayer) → time_adjustments_of p prayer ≼ time_adjustments_of (with_minutes p minutes) prayer)
    (held : (prayer : Prayer) → Near (2 ^ 32) (time_adjustments_of p prayer))
    (held_q : (prayer : Prayer) → Near (2 ^ 32) (time_adjustments_of (with_minutes p minutes) prayer))
    (season : Season) (date : Date) where
  by-suns : (s : Result ThreeSuns Refusal) (h : RowHours) → Row s → SunHour h.fajr_tomorrow
      → Moved p (with_minutes p minutes) (started_in date (since_from s h date season p))
      (started_in date (since_from s h date season (with_minutes p minutes)))
  unfolding started_in since_from
  by-suns (Err r) h x k = refused_alike p (with_minutes p minutes) r
  by-suns (Ok three) h x k =
      worked_alike p (with_minutes p minutes) _ _ (none-earlier p minutes season date three h more held held_q x k)
      (exactly p minutes season date three h)

  by-numbers : (rule : Midnight) (n : RowNumbers) → Moved p (with_minutes p minutes) (worked_of (hours_of rule n) date season p)
      (worked_of (hours_of rule n) date season (with_minutes p minutes))
  unfolding since_of
  by-numbers rule n = let h = hours rule n in by-suns (hours_of rule n).suns (hours_of rule n) h.suns h.fajr_tomorrow

pub later_minutes_move_the_day : LaterMinutesMoveTheDay
later_minutes_move_the_day rule n date season p q h =
    subst (λ (x : Parameters). LaterMinutes p x
    → Moved p x (worked_of (hours_of rule n) date season p) (worked_of (hours_of rule n) date season x)) h.alike
    (λ k. by-numbers p q.adjustments
    (λ prayer. le_yes (time_adjustments_of p prayer) (time_adjustments_of (with_minutes p q.adjustments) prayer) (k.more prayer))
    k.first_held k.second_held season date rule n) h

-- ---- from date and place on
pub later_minutes_move_the_row : LaterMinutesMoveTheRow
unfolding numbers_of
later_minutes_move_the_row date place rules p q h =
    let rule = rules.midnight in
    let season = season_of (setting_of place p rules) in
    let n = numbers_of date place p in
    let e : numbers_of date place q ≡ n = ap (numbers_of date place) (sym h.alike) in
    subst (λ (m : RowNumbers). Moved p q (worked_of (hours_of rule n) date season p) (worked_of (hours_of rule m) date season q)) (sym e)
    (later_minutes_move_the_day rule n date season p q h)
