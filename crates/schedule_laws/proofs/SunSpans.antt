-- How far the sun's times, Fajr and Isha are from 0h of their date, for all values that an order can hold. All bounds are whole days: the
-- sun's times are from one day before 0h to two days after it. Assumes nothing.
use Rattle.std.specs.Prelude.{Err, Ok, Option, Result}
use Rattle.refusals.specs.declared.Refusal.{Refusal}
use Rattle.prelude.proofs.Logic.{◌≡◌, sym, subst, cond, ℕ, ◌+◌, ◌*◌, ◌≤◌, arith, lit<, lit≤, ℤ, pos, lt_z, cases}
use lib.Ieee.{Float}
use Rattle.float64.specs.{Ops.dec, Ranges.Inside}
use Rattle.integers.proofs.Integers.{Between, divided, wider, sum_between, difference_between, product_between, either_between}
use Rattle.calendar.proofs.Calendar.{ordinal_of, ordinal_short}
use Rattle.calendar.specs.declared.dates.Date.{Date}
use Rattle.models.specs.declared.{high_altitude_rule.HighLatitudeRule.HighLatitudeRule, parameters.Parameters.Parameters}
use Rattle.models.specs.declared.{rules.Season.Season, rules.Midnight.Midnight}
use Rattle.models.specs.declared.high_altitude_rule.HighLatitudeRule.TheVariants.{MiddleOfTheNight, SeventhOfTheNight, TwilightAngle}
use Rattle.models.specs.{declared.rounding.Rounding.TheVariants.Nearest, Settings.portions_of, Settings.night_portions_of}
use Rattle.whole_minutes.proofs.TimesLaws.{rounded_between}
use Rattle.night_portions.specs.Portions.{portion_before_of, portion_after_of, seventh_of}
use Rattle.night_portions.proofs.BoundsLaws.{Portion, after-half, before-half}
use Rattle.night_portions.proofs.OrderPortions.{half_portion, seventh_portion, angle_portion}
use Rattle.ops.specs.Season.{morning_seconds_of, evening_seconds_of}
use Rattle.ops.proofs.SeasonLaws.{morning-small, evening-small}
use Rattle.solar.specs.declared.{times.Missing.Missing, times.SolarTime.SolarTime}
use Rattle.solar.specs.Times.{solar_hour_of, solar_time_of}
use Rattle.solar.proofs.TimesLaws.{SunOfThreeDays, DayOfThreeDays, hour_range, day_held}
use Rattle.schedule.specs.declared.{hours.ThreeSuns.ThreeSuns, hours.RowHours.RowHours, hours.RowNumbers.RowNumbers}
use Rattle.schedule.proofs.Schedule.{numbered_of, suns_of, hours_of, night_of, by_season_of, short_is, before_sunrise_of, unadjusted_fajr_of, after_sunset_of}
use Rattle.schedule.proofs.Schedule.{isha_bound_of, bounded_isha_of, unadjusted_isha_of}
use Rattle.order.specs.{Ranges.most_angle, Accepted.LatitudeInOrder, Accepted.ParametersInOrder}
use Rattle.schedule_laws.proofs.Spans.{HourBetween, hour_wider, own_between, earlier_between, next_day_between, fajr_between}

-- from `a` days before 0h of a date to `b` days after it
abbrev pub Days : ℕ → ℕ → ℤ → Type 0
Days a b z = Between (a * 86400) (b * 86400) z

-- ---- the sun's times
abbrev pub SunHour : Option ℤ → Type 0
SunHour hour = HourBetween 86400 (2 * 86400) hour

sun_hour : (rule : Midnight) (value : Float) → SunHour (solar_hour_of rule value)
sun_hour rule value = record { at = λ t e. wider (hour_range rule value t e) (lit≤ tt) (lit≤ tt) }

pub record Sun (sun : SolarTime) : Type 0 where
  pub transit : Days 1 2 sun.transit
  pub sunrise : Days 1 2 sun.sunrise
  pub sunset : Days 1 2 sun.sunset

sun_days : (sun : SolarTime) → SunOfThreeDays sun → Sun sun
sun_days sun h = record {
  transit = wider h.transit (lit≤ tt) (lit≤ tt);
  sunrise = wider h.sunrise (lit≤ tt) (lit≤ tt);
  sunset = wider h.sunset (lit≤ tt) (lit≤ tt);
}

pub record Three (suns : ThreeSuns) : Type 0 where
  pub today : Sun suns.today
  pub tomorrow : Sun suns.tomorrow
  pub after : Sun suns.after

-- if the row is not refused
abbrev pub Row : Result ThreeSuns Refusal → Type 0
Row (Ok suns) = Three suns
Row (Err r) = Unit {0}

row : (a b c : Result SolarTime Missing) → DayOfThreeDays a → DayOfThreeDays b → DayOfThreeDays c
    → Row (suns_of (numbered_of a) (numbered_of b) (numbered_of c))
unfolding numbered_of suns_of
row (Err m) b c h k l = tt
row (Ok x) (Err m) c h k l = tt
row (Ok x) (Ok y) (Err m) h k l = tt
row (Ok x) (Ok y) (Ok z) h k l = record { today = sun_days x h; tomorrow = sun_days y k; after = sun_days z l }

pub record Hours (h : RowHours) : Type 0 where
  pub suns : Row h.suns
  pub fajr : SunHour h.fajr
  pub asr : SunHour h.asr
  pub isha : SunHour h.isha
  pub fajr_tomorrow : SunHour h.fajr_tomorrow

pub hours : (rule : Midnight) (n : RowNumbers) → Hours (hours_of rule n)
unfolding hours_of
hours rule n =
    record {
      suns = row (solar_time_of rule n.today) (solar_time_of rule n.tomorrow) (solar_time_of rule n.after) (day_held rule n.today)
          (day_held rule n.tomorrow) (day_held rule n.after);
      fajr = sun_hour rule n.fajr;
      asr = sun_hour rule n.asr;
      isha = sun_hour rule n.isha;
      fajr_tomorrow = sun_hour rule n.fajr_tomorrow;
    }

-- ---- the night and its portions
pub night_days : (today next : SolarTime) → Sun today → Sun next → Days 2 4 (night_of today next)
unfolding night_of
night_days today next h k = difference_between (next_day_between 0 k.sunrise) h.sunset

pub seventh_days : (night : ℤ) → Days 2 4 night → Days 1 1 (seventh_of night)
unfolding seventh_of
seventh_days night h = let d = divided night 7 (lit< tt) in record { from = omega arith; to = omega arith }

-- Fajr's portion and Isha's
portions : (rule : HighLatitudeRule) (fajr isha : Float) → Inside (dec 0 0) (dec most_angle 0) fajr → Inside (dec 0 0) (dec most_angle 0) isha
    → Portion (portions_of rule fajr isha).fajr × Portion (portions_of rule fajr isha).isha
unfolding portions_of
portions MiddleOfTheNight fajr isha h k = (half_portion, half_portion)
portions SeventhOfTheNight fajr isha h k = (seventh_portion, seventh_portion)
portions TwilightAngle fajr isha h k = (angle_portion fajr h.0 h.1, angle_portion isha k.0 k.1)

-- ---- Fajr and Isha, not adjusted yet
module _ (p : Parameters) (season : Season) (allowed : ParametersInOrder p) (there : LatitudeInOrder season.latitude) (date : Date)
    (today next : SolarTime) (sun : Sun today) (sun_next : Sun next)
    (hour : Option ℤ) (placed : SunHour hour) where
  abbrev night : ℤ
  night = night_of today next

  long : Days 2 4 night
  long = night_days today next sun sun_next

  -- the seconds that the source's casts give
  abbrev before-cast : ℤ
  before-cast = cond (by_season_of p.method) (morning_seconds_of season (ordinal_of date) date.year)
      (portion_before_of (night_portions_of p).fajr night)

  abbrev after-cast : ℤ
  after-cast = cond (by_season_of p.method) (evening_seconds_of season (ordinal_of date) date.year p.shafaq)
      (portion_after_of (night_portions_of p).isha night)

  both : Portion (night_portions_of p).fajr × Portion (night_portions_of p).isha
  both = portions p.high_latitude_rule p.fajr_angle p.isha_angle allowed.fajr_angle allowed.isha_angle

  before-days : Days 2 1 before-cast
  before-days =
      let l = long in
      let m = morning-small season (ordinal_of date) date.year there.0 there.1 (ordinal_short date) in
      let b = before-half (night_portions_of p).fajr night both.0 (wider l (lit≤ tt) (lit≤ tt)) in
      either_between (by_season_of p.method) (record { from = omega (arith, m.1); to = m.0 })
      (record { from = omega (arith, b.1); to = omega (arith, b.0) })

  evening : Days 1 1 (evening_seconds_of season (ordinal_of date) date.year p.shafaq)
  evening =
      let e = evening-small season (ordinal_of date) date.year there.0 there.1 (ordinal_short date) p.shafaq in
      record { from = e.1; to = e.0 }

  portion : Days 1 2 (portion_after_of (night_portions_of p).isha night)
  portion =
      let l = long in
      let b = after-half (night_portions_of p).isha night both.1 (wider l (lit≤ tt) (lit≤ tt)) in
      record { from = omega (arith, b.1); to = omega (arith, b.0) }

  -- an i32 holds them, so the bounds use the source's seconds
  pub before-source : before_sunrise_of p season date night ≡ before-cast
  unfolding before_sunrise_of
  before-source = short_is before-cast (wider before-days (lit≤ tt) (lit≤ tt))

  pub after-source : after_sunset_of p season date night ≡ after-cast
  unfolding after_sunset_of
  after-source =
      short_is after-cast (either_between (by_season_of p.method) (wider evening (lit≤ tt) (lit≤ tt)) (wider portion (lit≤ tt) (lit≤ tt)))

  before : Days 2 1 (before_sunrise_of p season date night)
  before = subst (Days 2 1) (sym before-source) before-days

  pub fajr-days : Days 3 3 (unadjusted_fajr_of p season date today next hour)
  fajr-days = fajr_between p season date today next hour placed sun.sunrise (wider (seventh_days night long) (lit≤ tt) (lit≤ tt)) before

  abbrev IshaSpan : ℤ → Type 0
  IshaSpan z = Between (2 * 86400 + 60) (4 * 86400) z

  bound : IshaSpan (isha_bound_of p season date today night)
  unfolding isha_bound_of
  bound =
      cases (by_season_of p.method) (λ by_season. rw (after-source, by_season)
      (wider (rounded_between Nearest (sum_between sun.sunset evening)) (lit≤ tt) (lit≤ tt)))
      (λ by_night. rw (after-source, by_night) (wider (sum_between sun.sunset portion) (lit≤ tt) (lit≤ tt)))

  bounded : IshaSpan (bounded_isha_of p season date today next hour)
  unfolding bounded_isha_of
  bounded =
      earlier_between (own_between p.method season.latitude hour (hour_wider placed (lit≤ tt) (lit≤ tt))
      (wider (sum_between sun.sunset (seventh_days night long)) (lit≤ tt) (lit≤ tt)) bound) bound

  pub isha-days : IshaSpan (unadjusted_isha_of p season date today next hour)
  unfolding unadjusted_isha_of
  isha-days = either_between (lt_z (pos 0) p.isha_interval)
      (wider (sum_between sun.sunset (product_between allowed.isha_interval 60)) (lit≤ tt) (lit≤ tt)) bounded
