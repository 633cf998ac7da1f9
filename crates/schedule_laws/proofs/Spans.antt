-- How far Fajr and Isha are from 0h of their date, by how far the sun's times are and what is added to them. Assumes nothing.
use Rattle.std.specs.Prelude.{None, Option, Some}
use Rattle.prelude.proofs.Logic.{◌≡◌, refl, ℕ, ◌+◌, ◌*◌, ◌≤◌, arith, ℤ, pos, ◌+ℤ◌, lt_z}
use lib.Ieee.{Float}
use Rattle.integers.proofs.Integers.{Between, Near, sum, by_balance, wider, sum_between, difference_between, either_between}
use Rattle.calendar.specs.declared.dates.Date.{Date}
use Rattle.models.specs.declared.{method.Method.Method, parameters.Parameters.Parameters, rules.Season.Season, prayer.Prayer.Prayer}
use Rattle.models.specs.Settings.{time_adjustments_of}
use Rattle.whole_minutes.proofs.TimesLaws.{rounded_between, adjusted_between}
use Rattle.night_portions.specs.Portions.{seventh_of}
use Rattle.solar.specs.declared.{times.SolarTime.SolarTime}
use Rattle.schedule.proofs.Schedule.{final_of, next_day_of, night_of, later_of, earlier_of, or_of, by_seventh_of, own_of, before_sunrise_of}
use Rattle.schedule.proofs.Schedule.{unadjusted_fajr_of}

-- an hour's time, if it has one
pub record HourBetween (a b : ℕ) (hour : Option ℤ) : Type 0 where
  pub at : (t : ℤ) → hour ≡ Some t → Between a b t

pub hour_wider : {a b c d : ℕ} {hour : Option ℤ} → HourBetween a b hour → a ≤ c → b ≤ d → HourBetween c d hour
hour_wider h l m = record { at = λ t e. wider (h.at t e) l m }

pub or_between : {a b : ℕ} {y : ℤ} (hour : Option ℤ) → HourBetween a b hour → Between a b y → Between a b (or_of hour y)
unfolding or_of
or_between (Some t) h k = h.at t refl
or_between None h k = k

pub own_between : {a b : ℕ} {x y : ℤ} (method : Method) (latitude : Float) (hour : Option ℤ) → HourBetween a b hour → Between a b x
    → Between a b y → Between a b (own_of method latitude x hour y)
unfolding own_of
own_between method latitude hour h k l = either_between (by_seventh_of method latitude) k (or_between hour h l)

later_between : {a b : ℕ} {x y : ℤ} → Between a b x → Between a b y → Between a b (later_of x y)
unfolding later_of
later_between {a} {b} {x} {y} h k = either_between (lt_z x y) k h

pub earlier_between : {a b : ℕ} {x y : ℤ} → Between a b x → Between a b y → Between a b (earlier_of x y)
unfolding earlier_of
earlier_between {a} {b} {x} {y} h k = either_between (lt_z y x) k h

-- a time of the next date, from 0h of this one
pub next_day_between : (a : ℕ) {b : ℕ} {x : ℤ} → Between (86400 + a) b x → Between a (b + 86400) (next_day_of x)
next_day_between a {b} {x} h = let s = sum x (pos 86400) in by_balance a (b + 86400) (x +ℤ pos 86400) (omega arith) (omega arith)

-- -c to d seconds are added to sunrise, by the bound and also by a seventh of the night
pub fajr_between : {a b c d : ℕ} (p : Parameters) (season : Season) (date : Date) (today next : SolarTime) (hour : Option ℤ)
    → HourBetween a b hour → Between a b today.sunrise
    → Between d c (seventh_of (night_of today next)) → Between c d (before_sunrise_of p season date (night_of today next))
    → Between (a + c) (b + d) (unadjusted_fajr_of p season date today next hour)
unfolding unadjusted_fajr_of
fajr_between p season date today next hour h r v m =
    let bound = sum_between r m in
    later_between (own_between p.method season.latitude hour (hour_wider h (omega arith) (omega arith))
    (difference_between r v) bound) bound

-- adjusted and rounded
pub final_between : {a b k : ℕ} {x : ℤ} (p : Parameters) (prayer : Prayer) → Between a b x → Near k (time_adjustments_of p prayer)
    → Between (a + k * 60 + 60) (b + k * 60 + 60) (final_of p prayer x)
unfolding final_of
final_between p prayer h k = rounded_between p.rounding (adjusted_between h k)
