-- What the functions return past the last year that a u32 holds, and for a date that does not exist.
use Rattle.std.specs.Prelude.{ℕ, Bool, cond, leb, ℤ, pos, ◌+ℤ◌}
use Rattle.calendar.specs.Gregorian.{date_of, exists_of, day_after_of, day_before_of}
use Rattle.calendar.specs.Days.{day_number_of, date_of_day_of}
use Rattle.calendar.specs.declared.dates.Date.{Date}

-- d, or the last date that a u32 holds if d is after it
unfoldable pub held_of : Date → Date
held_of d = cond (leb d.year 4294967295) d (date_of 4294967295 12 31)

-- a date that does not exist has no day before or after it: d itself
unfoldable pub from_of : Date → Date → Date
from_of d e = cond (exists_of d) (held_of e) d

abbrev pub tomorrow_of : Date → Date
tomorrow_of d = from_of d (day_after_of d)

abbrev pub yesterday_of : Date → Date
yesterday_of d = from_of d (day_before_of d)

abbrev pub next_date_of : Date → Bool → Date
next_date_of d fwd = cond fwd (tomorrow_of d) (yesterday_of d)

abbrev pub of_day_of : ℤ → Date
of_day_of day = held_of (date_of_day_of day)

-- "rows count from 0" (document 01): `row` days after the first
abbrev pub row_date_of : Date → ℕ → Date
row_date_of first row = from_of first (date_of_day_of (day_number_of first +ℤ pos row))
