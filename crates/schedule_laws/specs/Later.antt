-- Two sets of parameters that differ only in a school's own minutes (demand 3): what the second's larger sums do to the days that are
-- refused, to the nine times and to the prayer in force. This holds for all hour numbers, both rules at midnight and in the south, every
-- date and every latitude. Proved in proofs/LaterLaws.
use Rattle.std.specs.Prelude.{◌≡◌, ◌^◌, ◌≤◌, ◌<◌, true, ℤ, pos, ◌+ℤ◌, ◌-ℤ◌, ◌*ℤ◌, Err, Ok, Result}
use Rattle.std.specs.Int.Signed.{le_z}
use Rattle.integers.specs.Parts.{Near}
use Rattle.calendar.specs.declared.dates.Date.{Date}
use Rattle.models.specs.declared.adjustments.TimeAdjustment.{TimeAdjustment}
use Rattle.models.specs.declared.parameters.Parameters.{Parameters}
use Rattle.models.specs.declared.prayer.Prayer.{Prayer}
use Rattle.models.specs.declared.prayer.Prayer.TheVariants.{Fajr, Sunrise, Dhuhr, Asr, Maghrib, Isha}
use Rattle.models.specs.declared.rules.Midnight.{Midnight}
use Rattle.models.specs.declared.rules.Rules.{Rules}
use Rattle.models.specs.declared.rules.Season.{Season}
use Rattle.refusals.specs.declared.Refusal.{Refusal}
use Rattle.models.specs.Chosen.{setting_of}
use Rattle.models.specs.Settings.{time_adjustments_of}
use Rattle.unit.specs.declared.Coordinates.{Coordinates}
use Rattle.schedule.specs.declared.hours.RowNumbers.{RowNumbers}
use Rattle.schedule.specs.declared.in_force.Instant.{Instant}
use Rattle.schedule.specs.declared.prayer_times.PrayerTimes.{PrayerTimes}
use Rattle.schedule.specs.Hours.{hours_of}
use Rattle.schedule.specs.InForce.{in_second, nanoseconds_of, NotAfter, current_time_of, current_number_of}
use Rattle.schedule.specs.Times.{worked_of, worked_at}

-- ---- "differ only in schools' own minutes, and the second's sum (own plus method's) for each of the six prayers is at least the first's"
abbrev pub with_minutes : Parameters → TimeAdjustment → Parameters
with_minutes p minutes =
    record {
      method = p.method;
      fajr_angle = p.fajr_angle;
      maghrib_angle = p.maghrib_angle;
      isha_angle = p.isha_angle;
      isha_interval = p.isha_interval;
      madhab = p.madhab;
      high_latitude_rule = p.high_latitude_rule;
      adjustments = minutes;
      method_adjustments = p.method_adjustments;
      rounding = p.rounding;
      shafaq = p.shafaq;
    }

-- Qiyam and tomorrow's Fajr have no minutes, so their sums are 0. The sum of two i32 is always within 2 ^ 32.
pub record LaterMinutes (p q : Parameters) : Type 0 where
  pub alike : with_minutes p q.adjustments ≡ q
  pub more : (prayer : Prayer) → le_z (time_adjustments_of p prayer) (time_adjustments_of q prayer) ≡ true
  pub first_held : (prayer : Prayer) → Near (2 ^ 32) (time_adjustments_of p prayer)
  pub second_held : (prayer : Prayer) → Near (2 ^ 32) (time_adjustments_of q prayer)

-- ---- "none of the second's nine times is earlier than the first's"
pub record NoneEarlier (t u : PrayerTimes) : Type 0 where
  pub fajr : le_z t.fajr u.fajr ≡ true
  pub sunrise : le_z t.sunrise u.sunrise ≡ true
  pub dhuhr : le_z t.dhuhr u.dhuhr ≡ true
  pub asr : le_z t.asr u.asr ≡ true
  pub maghrib : le_z t.maghrib u.maghrib ≡ true
  pub isha : le_z t.isha u.isha ≡ true
  pub middle_of_the_night : le_z t.middle_of_the_night u.middle_of_the_night ≡ true
  pub qiyam : le_z t.qiyam u.qiyam ≡ true
  pub fajr_tomorrow : le_z t.fajr_tomorrow u.fajr_tomorrow ≡ true

-- ---- "each of its six daily times is later by exactly the difference of the two sums for it, and tomorrow's Fajr by exactly Fajr's
-- difference": 60 seconds for each minute
abbrev pub later_by : Parameters → Parameters → Prayer → ℤ
later_by p q prayer = (time_adjustments_of q prayer -ℤ time_adjustments_of p prayer) *ℤ pos 60

pub record ExactlyLater (p q : Parameters) (t u : PrayerTimes) : Type 0 where
  pub fajr : u.fajr ≡ t.fajr +ℤ later_by p q Fajr
  pub sunrise : u.sunrise ≡ t.sunrise +ℤ later_by p q Sunrise
  pub dhuhr : u.dhuhr ≡ t.dhuhr +ℤ later_by p q Dhuhr
  pub asr : u.asr ≡ t.asr +ℤ later_by p q Asr
  pub maghrib : u.maghrib ≡ t.maghrib +ℤ later_by p q Maghrib
  pub isha : u.isha ≡ t.isha +ℤ later_by p q Isha
  pub fajr_tomorrow : u.fajr_tomorrow ≡ t.fajr_tomorrow +ℤ later_by p q Fajr

-- ---- "an instant .. ordered by whole seconds, then nanoseconds": this is the order by nanoseconds from 1970 on, since the nanoseconds of
-- an instant are less than a second
abbrev pub NotAfterByNanoseconds : Type 0
NotAfterByNanoseconds =
    (j i : Instant) → j.nanoseconds < in_second → i.nanoseconds < in_second
    → (NotAfter j i → le_z (nanoseconds_of j) (nanoseconds_of i) ≡ true) × (le_z (nanoseconds_of j) (nanoseconds_of i) ≡ true → NotAfter j i)

-- ---- demand 3 for one day: w is the day under the first parameters, v under the second
pub record Moved (p q : Parameters) (w v : Result PrayerTimes Refusal) : Type 0 where
  -- the same days are refused, with the same number and place
  pub refused : (r : Refusal) → w ≡ Err r → v ≡ Err r
  pub refused_too : (r : Refusal) → v ≡ Err r → w ≡ Err r
  -- on every other day
  pub none_earlier : (t u : PrayerTimes) → w ≡ Ok t → v ≡ Ok u → NoneEarlier t u
  pub exactly_later : (t u : PrayerTimes) → w ≡ Ok t → v ≡ Ok u → ExactlyLater p q t u
  -- "the prayer in force .. stands no later in the list of eight .. ("none" standing before Fajr)"
  pub in_force : (t u : PrayerTimes) → w ≡ Ok t → v ≡ Ok u → (i j : Instant) → j.nanoseconds < in_second → NotAfter j i
      → current_number_of (current_time_of u j) ≤ current_number_of (current_time_of t i)

abbrev pub LaterMinutesMoveTheDay : Type 0
LaterMinutesMoveTheDay =
    (rule : Midnight) (n : RowNumbers) (date : Date) (season : Season) (p q : Parameters) → LaterMinutes p q
    → Moved p q (worked_of (hours_of rule n) date season p) (worked_of (hours_of rule n) date season q)

-- the same from a date and a place: the minutes change no hour number
abbrev pub LaterMinutesMoveTheRow : Type 0
LaterMinutesMoveTheRow =
    (date : Date) (place : Coordinates) (rules : Rules) (p q : Parameters) → LaterMinutes p q
    → Moved p q (worked_at date (setting_of place p rules)) (worked_at date (setting_of place q rules))
