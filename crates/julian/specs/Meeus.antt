-- Meeus, Astronomical Algorithms, page 60, on whole numbers: INT is division without remainder, and the Julian Day at 0 h is a number of
-- halves.
use Rattle.std.specs.Prelude.{◌≡◌, ℕ, ◌+◌, ◌-◌, ◌*◌, ◌/◌, ◌≤◌, true, false, cond, pos, ◌+ℤ◌, ◌*ℤ◌, nat_lt}
use Rattle.std.specs.Float.Ieee.Exact.{HasValue}
use Rattle.calendar.specs.Days.{day_number_of}
use Rattle.calendar.specs.Gregorian.{exists_of}
use Rattle.calendar.specs.declared.dates.Date.{Date}
use Rattle.julian.specs.Julian.{date_julian_day_of}

-- "if M = 1 or 2, Y is replaced by Y - 1 and M by M + 12"
abbrev pub y_of : Date → ℕ
y_of d = cond (nat_lt 2 d.month) d.year (d.year - 1)

abbrev pub m_of : Date → ℕ
m_of d = cond (nat_lt 2 d.month) d.month (d.month + 12)

-- INT(365.25 (Y + 4716))
abbrev pub year_days_of : ℕ → ℕ
year_days_of y = 1461 * (y + 4716) / 4

-- INT(30.6001 (M + 1))
abbrev pub month_term_of : ℕ → ℕ
month_term_of m = 306001 * (m + 1) / 10000

-- twice JD = INT(365.25 (Y + 4716)) + INT(30.6001 (M + 1)) + D + B - 1524.5, where B = 2 - A + INT(A / 4) and A = INT(Y / 100)
unfoldable pub meeus_of : Date → ℕ
meeus_of d = let a = y_of d / 100 in 2 * (year_days_of (y_of d) + month_term_of (m_of d) + d.day + 2 + a / 4 - a) - 3049

-- Demand 2: "the Julian Day is Meeus's"; document 01: "the whole-number formula and the f64 one give the same Julian Day". For every date
-- of the years 1899 to 2200 the f64's exact value is Meeus's number, and day 0 begins at 2440587.5. Proved in proofs/MeeusLaws.
pub record JulianDayIsMeeus (d : Date) : Type 0 where
  pub meeus : HasValue (date_julian_day_of d) false (meeus_of d) 2
  pub counted : pos (meeus_of d) ≡ day_number_of d *ℤ pos 2 +ℤ pos 4881175

abbrev pub JulianDaysAreMeeus : Type 0
JulianDaysAreMeeus = (d : Date) → exists_of d ≡ true → 1899 ≤ d.year → d.year ≤ 2200 → JulianDayIsMeeus d
