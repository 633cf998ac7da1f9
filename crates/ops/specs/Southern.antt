-- Request 3: what the southern count is over the days of every year: "a table that starts the year again at their solstice". Proved in
-- proofs/SouthernLaws.
use Rattle.std.specs.Prelude.{◌≡◌, ℕ, ◌+◌, ◌<◌, ◌≤◌, ◌≢◌}
use Rattle.calendar.specs.Days.{days_in_year_of}
use Rattle.ops.specs.Season.{southern_offset_of, southern_count_of}

-- day is one of the year's
abbrev pub DayOfYear : ℕ → ℕ → Type 0
DayOfYear day year = (1 ≤ day) × (day ≤ days_in_year_of year)

pub record SouthernYear (year : ℕ) : Type 0 where
  -- from 0 to the last day less one
  pub within : (day : ℕ) → DayOfYear day year → southern_count_of day year < days_in_year_of year
  -- it starts again on the day of the solstice, and on no other
  pub starts : southern_count_of (southern_offset_of year) year ≡ 0
  pub starts_once : (day : ℕ) → DayOfYear day year → southern_count_of day year ≡ 0 → day ≡ southern_offset_of year
  -- and goes up by one from a day to the next but for that day
  pub rises : (day : ℕ) → DayOfYear day year → DayOfYear (day + 1) year → (day + 1 ≢ southern_offset_of year)
      → southern_count_of (day + 1) year ≡ southern_count_of day year + 1
  -- across the end of the year too: the first day of the next counts one more than the last of this one
  pub goes_on : southern_count_of 1 (year + 1) ≡ southern_count_of (days_in_year_of year) year + 1

abbrev pub SouthernCount : Type 0
SouthernCount = (year : ℕ) → SouthernYear year
