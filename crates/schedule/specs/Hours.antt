-- The sun's times that a row is worked from, by the order's rule at midnight. Each is in seconds from 0h of its own date.
use Rattle.std.specs.Prelude.{Err, Ok, Result, ℕ}
use Rattle.refusals.specs.declared.Refusal.{Refusal}
use Rattle.solar.specs.declared.times.Missing.{Missing}
use Rattle.solar.specs.declared.times.SolarTime.{SolarTime}
use Rattle.schedule.specs.declared.hours.ThreeSuns.{ThreeSuns}
use Rattle.models.specs.declared.rules.Midnight.{Midnight}
use Rattle.refusals.specs.Refusals.{refusal}
use Rattle.solar.specs.Times.{missing_number_of, solar_hour_of, solar_time_of}
use Rattle.schedule.specs.declared.hours.RowNumbers.{RowNumbers}
use Rattle.schedule.specs.declared.hours.RowHours.{RowHours}

-- a day's times, or the number of the time that it lacks
unfoldable pub numbered_of : Result SolarTime Missing → Result SolarTime ℕ
numbered_of (Ok x) = Ok x
numbered_of (Err m) = Err (missing_number_of m)

-- a day of the three, or the refusal of what it lacks
unfoldable pub sun_of : Result SolarTime ℕ → ℕ → Result SolarTime Refusal
sun_of (Ok x) day = Ok x
sun_of (Err n) day = Err (refusal n day)

-- "Days 0, 1, 2 are the date and the two after it, tried in that order, each for 6, 7, 8"
unfoldable pub suns_of : Result SolarTime ℕ → Result SolarTime ℕ → Result SolarTime ℕ → Result ThreeSuns Refusal
suns_of (Err n) b c = Err (refusal n 0)
suns_of (Ok x) (Err n) c = Err (refusal n 1)
suns_of (Ok x) (Ok y) (Err n) = Err (refusal n 2)
suns_of (Ok x) (Ok y) (Ok z) = Ok (record { today = x; tomorrow = y; after = z })

unfoldable pub hours_of : Midnight → RowNumbers → RowHours
hours_of rule n =
    record {
      suns =
          suns_of (numbered_of (solar_time_of rule n.today)) (numbered_of (solar_time_of rule n.tomorrow))
          (numbered_of (solar_time_of rule n.after));
      fajr = solar_hour_of rule n.fajr;
      asr = solar_hour_of rule n.asr;
      isha = solar_hour_of rule n.isha;
      fajr_tomorrow = solar_hour_of rule n.fajr_tomorrow;
    }
