-- "The Gregorian calendar decides" (document 01): its rule, for every year from 0 on, also before it was in use. Promises states that the
-- numbers of Days follow it.
use Rattle.std.specs.Prelude.{ℕ, ◌+◌, ◌-◌, ◌%◌, Bool, cond, not, ◌&&◌, ◌||◌, List, [], ◌∷◌, eqb, ltb, leb, get_or}
use Rattle.calendar.specs.declared.dates.Date.{Date}

abbrev pub date_of : ℕ → ℕ → ℕ → Date
date_of year month day = record { year = year; month = month; day = day }

abbrev pub divides : ℕ → ℕ → Bool
divides k n = eqb (n % k) 0

-- every fourth year, but of the hundredth years only every fourth
unfoldable pub leap_of : ℕ → Bool
leap_of year = divides 4 year && (not (divides 100 year) || divides 400 year)

-- the days of each month by its number; there is no month 0, and none after 12
abbrev pub lengths_of : Bool → List ℕ
lengths_of leap = 0 ∷ 31 ∷ cond leap 29 28 ∷ 31 ∷ 30 ∷ 31 ∷ 30 ∷ 31 ∷ 31 ∷ 30 ∷ 31 ∷ 30 ∷ 31 ∷ []

unfoldable pub length_of : Bool → ℕ → ℕ
length_of leap month = get_or (lengths_of leap) month 0

abbrev pub days_in_month_of : ℕ → ℕ → ℕ
days_in_month_of year month = length_of (leap_of year) month

-- a month that is not from 1 to 12 has no days, so no date in it exists
unfoldable pub exists_of : Date → Bool
exists_of d = leb 1 d.day && leb d.day (days_in_month_of d.year d.month)

-- the next day of the month; after a month's last day the first of the next month; after December 31 the first of January
unfoldable pub day_after_of : Date → Date
day_after_of d =
    cond (ltb d.day (days_in_month_of d.year d.month)) (date_of d.year d.month (d.day + 1))
    (cond (ltb d.month 12) (date_of d.year (d.month + 1) 1) (date_of (d.year + 1) 1 1))

-- the same backwards. 0000-01-01 has no day before it: the result is 0000-01-01 itself
unfoldable pub day_before_of : Date → Date
day_before_of d =
    cond (ltb 1 d.day) (date_of d.year d.month (d.day - 1))
    (cond (ltb 1 d.month) (date_of d.year (d.month - 1) (days_in_month_of d.year (d.month - 1)))
    (cond (ltb 0 d.year) (date_of (d.year - 1) 12 31) d))
