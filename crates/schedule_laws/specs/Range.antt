-- Document 01: nine times, "each as signed days from the row's date". Those days have one digit, for all hour numbers, both rules at
-- midnight and in the south, every date, and all latitudes and parameters that an order can hold. Proved in proofs/RangeLaws.
use Rattle.std.specs.Prelude.{◌≡◌, ◌*◌, ◌≤◌, ◌<◌, ℤ, ◌-ℤ◌, Ok}
use Rattle.integers.specs.Parts.{P, N, Near}
use Rattle.integers.specs.Quotients.{floor_quot}
use Rattle.calendar.specs.declared.dates.Date.{Date}
use Rattle.models.specs.declared.parameters.Parameters.{Parameters}
use Rattle.models.specs.declared.prayer.Prayer.{Prayer}
use Rattle.models.specs.declared.rules.Midnight.{Midnight}
use Rattle.models.specs.declared.rules.Season.{Season}
use Rattle.schedule.specs.declared.hours.RowNumbers.{RowNumbers}
use Rattle.schedule.specs.declared.prayer_times.PrayerTimes.{PrayerTimes}
use Rattle.schedule.specs.Hours.{hours_of}
use Rattle.schedule.specs.InForce.{time_of}
use Rattle.schedule.specs.Times.{start_of, worked_of}
use Rattle.order.specs.Accepted.{LatitudeInOrder, ParametersInOrder}

-- from 4 days before 0h of the date to before 5 days after it
pub record OfDate (date : Date) (time : ℤ) : Type 0 where
  pub from : N (time -ℤ start_of date) ≤ 4 * 86400
  pub before : P (time -ℤ start_of date) < 5 * 86400

-- all nine times: the eight that a prayer names, and the middle of the night
pub record AllOfDate (date : Date) (t : PrayerTimes) : Type 0 where
  pub named : (prayer : Prayer) → OfDate date (time_of t prayer)
  pub middle_of_the_night : OfDate date t.middle_of_the_night

abbrev pub TimesLieByTheirDate : Type 0
TimesLieByTheirDate =
    (rule : Midnight) (n : RowNumbers) (date : Date) (season : Season) (p : Parameters) (t : PrayerTimes)
    → LatitudeInOrder season.latitude → ParametersInOrder p → worked_of (hours_of rule n) date season p ≡ Ok t → AllOfDate date t

-- the days that the sheet prints, rounded down, are from -4 to 4
abbrev pub DaysAreOneDigit : Type 0
DaysAreOneDigit = (date : Date) (time : ℤ) → OfDate date time → Near 4 (floor_quot (time -ℤ start_of date) 86400)
