-- ops.rs's julian_day, operation by operation in f64: Meeus, Astronomical Algorithms, page 60. Whole numbers are integers, which never
-- wrap.
use Rattle.std.specs.Prelude.{ℕ, cond, ℤ, pos, ◌+ℤ◌, ◌-ℤ◌, int_div, int_lt, nat_lt, Float}
use Rattle.std.specs.Float.{binary64}
use Rattle.std.specs.Float.Ieee.{of_int, to_signed}
use Rattle.float64.specs.Ops.{◌+ᶠ◌, ◌-ᶠ◌, ◌*ᶠ◌, ◌/ᶠ◌, dec}
use Rattle.calendar.specs.declared.dates.Date.{Date}

abbrev pub real : ℤ → Float
real n = of_int binary64 n

-- "Casting to i32 is done intentionally for the purpose of decimal truncation" (ops.rs)
abbrev pub cut_of : Float → ℤ
cut_of x = to_signed 31 x

unfoldable pub year_product_of : ℤ → Float
year_product_of year = dec 36525 2 *ᶠ (real year +ᶠ dec 4716 0)

unfoldable pub month_product_of : ℤ → Float
month_product_of month = dec 306001 4 *ᶠ (real month +ᶠ dec 1 0)

-- the Gregorian correction: 2 - A + A / 4, where A is the century
unfoldable pub correction_of : ℤ → ℤ
correction_of year = let a = int_div year (pos 100) in (pos 2 -ℤ a) +ℤ int_div a (pos 4)

-- the month is 3 to 14
unfoldable pub from_march_of : ℤ → ℤ → Float → Float
from_march_of year month day =
    real (cut_of (year_product_of year)) +ᶠ real (cut_of (month_product_of month)) +ᶠ day +ᶠ real (correction_of year) -ᶠ dec 15245 1

-- January and February are months 13 and 14 of the year before
unfoldable pub julian_day_of : ℤ → ℤ → ℤ → Float → Float
julian_day_of year month day hours =
    let d = real day +ᶠ hours /ᶠ dec 24 0 in
    cond (int_lt (pos 2) month) (from_march_of year month d) (from_march_of (year -ℤ pos 1) (month +ℤ pos 12) d)

-- n, or the largest i32 if n is above it
unfoldable pub to_i32_of : ℕ → ℤ
to_i32_of n = cond (nat_lt n 2147483648) (pos n) (pos 2147483647)

-- the Julian Day of a date at 0 h
unfoldable pub date_julian_day_of : Date → Float
date_julian_day_of d = julian_day_of (to_i32_of d.year) (to_i32_of d.month) (to_i32_of d.day) (dec 0 0)
