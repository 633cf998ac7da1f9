-- Demand 2: "the calendar is the Gregorian one". What Days counts is the calendar of Gregorian, from 0000-01-01 on. Proved in
-- proofs/Promises.
use Rattle.std.specs.Prelude.{ℕ, ◌+◌, ◌%◌, ◌≤◌, ◌<◌, ◌≡◌, true, ℤ, pos, negsuc, ◌+ℤ◌}
use Rattle.std.specs.Int.Signed.{le_z}
use Rattle.calendar.specs.Answers.{row_date_of}
use Rattle.calendar.specs.Days.{days_in_year_of, ordinal_of, day_number_of, date_of_day_of, weekday_of}
use Rattle.calendar.specs.Gregorian.{date_of, exists_of, day_after_of, day_before_of}
use Rattle.calendar.specs.declared.dates.Date.{Date}

pub record CalendarIsGregorian : Type 0 where
  -- day 0 is 1970-01-01; the day after a date exists, and its number is one more
  pub zero : day_number_of (date_of 1970 1 1) ≡ pos 0
  pub next : (d : Date) → exists_of d ≡ true → (exists_of (day_after_of d) ≡ true) × (day_number_of (day_after_of d) ≡ day_number_of d +ℤ pos 1)
  -- the day before undoes the day after; only 0000-01-01 has no day before
  pub before : (d : Date) → exists_of d ≡ true → day_before_of (day_after_of d) ≡ d
  pub after : (d : Date) → exists_of d ≡ true → (d ≡ date_of 0 1 1 → ⊥) → (exists_of (day_before_of d) ≡ true) × (day_after_of (day_before_of d) ≡ d)
  -- from date to number and back; every day from 0000-01-01 on has a date
  pub date : (d : Date) → exists_of d ≡ true → date_of_day_of (day_number_of d) ≡ d
  pub number : (z : ℤ) → le_z (negsuc 719527) z ≡ true → (exists_of (date_of_day_of z) ≡ true) × (day_number_of (date_of_day_of z) ≡ z)
  -- days of the year begin at 1, each is one more than the one before, and the last is the year's number of days
  pub ordinal_first : (year : ℕ) → ordinal_of (date_of year 1 1) ≡ 1
  pub ordinal_next : (d : Date) → exists_of d ≡ true → (day_after_of d).year ≡ d.year → ordinal_of (day_after_of d) ≡ ordinal_of d + 1
  pub ordinal_last : (year : ℕ) → ordinal_of (date_of year 12 31) ≡ days_in_year_of year
  -- row 0 has the first date itself, and each next row the day after, while a u32 holds the year
  pub row_first : (d : Date) → exists_of d ≡ true → d.year ≤ 4294967295 → row_date_of d 0 ≡ d
  pub row_next : (d : Date) (k : ℕ) → exists_of d ≡ true → (row_date_of d k).year < 4294967295
      → row_date_of d (k + 1) ≡ day_after_of (row_date_of d k)
  -- day 0 is a Thursday, and weekdays follow one another
  pub weekday_zero : weekday_of (pos 0) ≡ 4
  pub weekday_next : (z : ℤ) → weekday_of (z +ℤ pos 1) ≡ (weekday_of z + 1) % 7
