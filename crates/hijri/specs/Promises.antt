-- Request 12: the tabular Islamic calendar. Days counts the calendar of Rule, from 1-1-1 on, which is Julian Day 1948439.5. A start of
-- Ramadan is the first of a year's ninth month, moved by the shift. Proved in proofs/Promises.
use Rattle.std.specs.Prelude.{ℕ, ◌≤◌, ◌≡◌, true, ℤ, pos, negsuc, ◌+ℤ◌, ◌-ℤ◌}
use Rattle.std.specs.Int.Signed.{le_z}
use Rattle.calendar.specs.Answers as answers
use Rattle.calendar.specs.Days as days
use Rattle.calendar.specs.Gregorian as gregorian
use Rattle.calendar.specs.declared.dates.Date.{Date}
use Rattle.hijri.specs.Days.{day_number_of, date_of_day_of, of_day_of}
use Rattle.hijri.specs.Ramadan.{first_of_ramadan_of, shifted_start_of, ramadan_start_of}
use Rattle.hijri.specs.Rule.{date_of, exists_of, day_after_of}
use Rattle.hijri.specs.declared.dates.Tabular.{Tabular}

pub record CalendarIsTabular : Type 0 where
  pub first : (exists_of (date_of 1 1 1) ≡ true) × (day_number_of (date_of 1 1 1) ≡ negsuc 492147)
  -- the day after a date exists, and its number is one more
  pub next : (d : Tabular) → exists_of d ≡ true → (exists_of (day_after_of d) ≡ true) × (day_number_of (day_after_of d) ≡ day_number_of d +ℤ pos 1)
  -- from date to number and back; every day from 1-1-1 on has a date
  pub date : (d : Tabular) → exists_of d ≡ true → date_of_day_of (day_number_of d) ≡ d
  pub number : (z : ℤ) → le_z (negsuc 492147) z ≡ true → (exists_of (date_of_day_of z) ≡ true) × (day_number_of (date_of_day_of z) ≡ z)
  -- "Conversion goes from Gregorian and back without loss for every date an order may have", by the functions of the code; and the other
  -- way for every date, by the rule
  pub there_and_back : (d : Date) → gregorian.exists_of d ≡ true → 1899 ≤ d.year → d.year ≤ 2200
      → answers.of_day_of (day_number_of (of_day_of (days.day_number_of d))) ≡ d
  pub back_and_there : (d : Tabular) → exists_of d ≡ true → date_of_day_of (days.day_number_of (days.date_of_day_of (day_number_of d))) ≡ d
  -- the first of a year's ninth month, moved by the shift, is a start, and no other day is
  pub start : (year : ℕ) → 1 ≤ year → year ≤ 4294967295 → (shift : ℤ) → ramadan_start_of (shifted_start_of year shift) shift ≡ true
  pub only : (day shift : ℤ) → ramadan_start_of day shift ≡ true → first_of_ramadan_of (of_day_of (day -ℤ shift)).year ≡ day -ℤ shift
