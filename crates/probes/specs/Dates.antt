-- The tabular calendar's dates as the exports take and return them: three numbers.
use Rattle.std.specs.Prelude.{ℕ, ℤ}
use Rattle.calendar.specs.Gregorian.{date_of}
use Rattle.calendar.specs.declared.dates.Date.{Date}
use Rattle.hijri.specs.Days as hijri
use Rattle.hijri.specs.Rule as rule

unfoldable pub tabular_of_day : ℤ → Date
tabular_of_day day = let d = hijri.of_day_of day in date_of d.year d.month d.day

abbrev pub tabular_day_of : ℕ → ℕ → ℕ → ℤ
tabular_day_of year month day = hijri.day_number_of (rule.date_of year month day)
