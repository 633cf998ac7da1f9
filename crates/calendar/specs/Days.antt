-- Days by number: in the year from 1 on, from 1970-01-01 on, and in the week. Promises states that these formulas give the calendar of
-- Gregorian.
use Rattle.std.specs.Prelude.{ℕ, zero, suc, ◌+◌, ◌-◌, ◌*◌, ◌/◌, ◌%◌, Bool, cond, List, [], ◌∷◌, ltb, leb, ℤ, pos, ◌+ℤ◌, ◌-ℤ◌, get_or}
use Rattle.integers.specs.Parts.{P}
use Rattle.integers.specs.Quotients.{floor_rem}
use Rattle.calendar.specs.Gregorian.{date_of, leap_of, exists_of}
use Rattle.calendar.specs.declared.dates.Date.{Date}

-- ---- days of the year: "the days before each month, for common and leap years" (document 01), here the leap year's first
abbrev pub month_starts_of : Bool → List ℕ
month_starts_of leap =
    cond leap (0 ∷ 31 ∷ 60 ∷ 91 ∷ 121 ∷ 152 ∷ 182 ∷ 213 ∷ 244 ∷ 274 ∷ 305 ∷ 335 ∷ [])
    (0 ∷ 31 ∷ 59 ∷ 90 ∷ 120 ∷ 151 ∷ 181 ∷ 212 ∷ 243 ∷ 273 ∷ 304 ∷ 334 ∷ [])

-- 0 for a month that is not from 1 to 12
unfoldable pub days_before_of : Bool → ℕ → ℕ
days_before_of leap month = get_or (month_starts_of leap) (month - 1) 0

unfoldable pub days_in_year_of : ℕ → ℕ
days_in_year_of year = cond (leap_of year) 366 365

-- 1 on January 1st; 0 for a date that does not exist
unfoldable pub ordinal_of : Date → ℕ
ordinal_of d = cond (exists_of d) (days_before_of (leap_of d.year) d.month + d.day) 0

-- how many of the numbers are below n
unfoldable pub count_below : List ℕ → ℕ → ℕ
count_below [] n = 0
count_below (x ∷ xs) n = cond (ltb x n) 1 0 + count_below xs n

-- the month of a day of the year: the number of months that begin on that day or before
unfoldable pub month_of : Bool → ℕ → ℕ
month_of leap ordinal = count_below (month_starts_of leap) ordinal

unfoldable pub of_ordinal_of : ℕ → ℕ → Date
of_ordinal_of year ordinal =
    let month = month_of (leap_of year) ordinal in
    date_of year month (ordinal - days_before_of (leap_of year) month)

-- ---- days from 1970-01-01, by the days from 0000-01-01 to a year's January 1st
unfoldable pub days_before_year_of : ℕ → ℕ
days_before_year_of year = 365 * year + (year + 3) / 4 - (year + 99) / 100 + (year + 399) / 400

-- 0000-01-01 is day -719528
unfoldable pub day_number_of : Date → ℤ
day_number_of d = pos (days_before_year_of d.year + ordinal_of d) -ℤ pos 719529

-- the last of the years up to y that begins at most n days after 0000-01-01
unfoldable pub last_by : ℕ → ℕ → ℕ
last_by zero n = 0
last_by (suc y) n = cond (leb (days_before_year_of (suc y)) n) (suc y) (last_by y n)

-- the year of the day n days after 0000-01-01. It is at most n / 365, because a year has at least 365 days
unfoldable pub year_of : ℕ → ℕ
year_of n = last_by (n / 365) n

-- the date that is n days after 0000-01-01
unfoldable pub date_at_of : ℕ → Date
date_at_of n = of_ordinal_of (year_of n) (n + 1 - days_before_year_of (year_of n))

-- the date of a day by its number; 0000-01-01 for the days before it
unfoldable pub date_of_day_of : ℤ → Date
date_of_day_of day = date_at_of (P (day +ℤ pos 719528))

-- ---- days of the week: 0 is Sunday; 1970-01-01 was a Thursday
unfoldable pub weekday_of : ℤ → ℕ
weekday_of day = (floor_rem day 7 + 4) % 7

-- ---- the parts of a day
abbrev pub minutes_in_day : ℕ
minutes_in_day = 1440
