-- Document 01, "The order": the range of each tag's value. "Range ends are allowed; NaN is out of range."
use Rattle.std.specs.Prelude.{ℕ, ◌-◌, Bool, true, cond, ◌&&◌, List, [], ◌∷◌, leb, eqb, Float, ℤ, pos, neg_ℤ, length}
use Rattle.std.specs.Float.Ieee.{neg}
use Rattle.std.specs.Int.Signed.{le_z}
use Rattle.float64.specs.Ops.{dec}
use Rattle.float64.specs.Ranges.{inside_of}
use Rattle.calendar.specs.declared.dates.Date.{Date}
use Rattle.calendar.specs.Gregorian.{exists_of}
use Rattle.calendar.specs.Answers.{row_date_of}
use Rattle.fields.specs.Numbers.{byte_of, unsigned_of, signed_at_of}
use Rattle.fields.specs.Tags.{town_tag, date_tag, rows_tag, latitude_tag, longitude_tag, minutes_tag, fajr_angle_tag, isha_angle_tag, isha_interval_tag}
use Rattle.fields.specs.Tags.{clock_tag, ramadan_tag, choice_fits}
use Rattle.fields.specs.Values.{Values}
use Rattle.map_form.specs.Hundredths.{most_latitude, most_longitude, form_fits}
use Rattle.map_form.specs.Written.{map_latitude_tag, map_longitude_tag}
use Rattle.text.specs.Text.{printable}
use Rattle.models.specs.declared.adjustments.TimeAdjustment.{TimeAdjustment}
use Rattle.order.specs.Given.{date_in, rows_in, degrees_in, form_in, minutes_in}

abbrev pub between : ℕ → ℕ → ℕ → Bool
between low high n = leb low n && leb n high

abbrev pub within : ℕ → ℤ → Bool  -- of either sign
within most z = le_z (neg_ℤ (pos most)) z && le_z z (pos most)

abbrev pub first_year : ℕ
first_year = 1900

abbrev pub last_year : ℕ
last_year = 2199

-- "1900-01-01 to 2199-12-31"; "a day the month lacks" is out of range too, and so is a month that is not from 1 to 12
abbrev pub date_fits : Date → Bool
date_fits date = between first_year last_year date.year && exists_of date

abbrev pub most_rows : ℕ  -- request 4: "two bytes, 1 to 400"
most_rows = 400

abbrev pub most_in_byte : ℕ  -- "rows, 1 byte, 1 to 250"
most_in_byte = 250

abbrev pub most_in : List ℕ → ℕ
most_in v = cond (eqb (length v) 2) most_rows most_in_byte

-- "last row by 2199-12-31"; rows count from 0
unfoldable pub rows_fit : Date → List ℕ → Bool
rows_fit date v = between 1 (most_in v) (rows_in v) && leb (row_date_of date (rows_in v - 1)).year last_year

-- "NaN is out of range": no comparison with it holds
abbrev pub degrees_fit : Float → Float → List ℕ → Bool
degrees_fit low high v = inside_of low high (degrees_in v)

abbrev pub most_angle : ℕ  -- "Fajr, Isha angle, 0 to 30"
most_angle = 30

abbrev pub most_minutes : ℕ  -- "each -720 to 720"
most_minutes = 720

unfoldable pub minute_fits : ℤ → Bool
minute_fits minute = within most_minutes minute

unfoldable pub minutes_fit : TimeAdjustment → Bool
minutes_fit m =
    minute_fits m.fajr && minute_fits m.sunrise && minute_fits m.dhuhr && minute_fits m.asr && minute_fits m.maghrib
    && minute_fits m.isha

abbrev pub most_interval : ℕ  -- "2 bytes, 0 to 1,440"
most_interval = 1440

unfoldable pub interval_fits : List ℕ → Bool
interval_fits v = between 0 most_interval (unsigned_of v 0)

abbrev pub most_clock : ℕ  -- request 2: "signed 16-bit minutes, -840 to 840"
most_clock = 840

unfoldable pub clock_fits : List ℕ → Bool
clock_fits v = within most_clock (signed_at_of v 0)

abbrev pub most_imsak : ℕ  -- request 12: "imsak minutes over 30, a stored shift over 2" are out of range
most_imsak = 30

unfoldable pub ramadan_fits : List ℕ → Bool
ramadan_fits v = leb (byte_of v 0) most_imsak && leb (byte_of v 1) 2

abbrev pub rows_of_ramadan : ℕ  -- and so are "rows other than 30 (with tag 3's range, place 3)", if tag 20 is set
rows_of_ramadan = 30

unfoldable pub ramadan_rows : Bool → List ℕ → Bool
ramadan_rows set v = cond set (eqb (rows_in v) rows_of_ramadan) true

-- whether a value is in range, by tag. The ranges of choices are in the table of tags. The range of rows also depends on the order's date,
-- and on whether it has tag 20. The form of the fields checks a town's length.
abbrev pub ranges : List ℕ → (date : Date) → (ramadan : Bool) → List (ℕ × Bool)
ranges v date ramadan =
    (town_tag, printable v)
    ∷ (date_tag, date_fits (date_in v))
    ∷ (rows_tag, rows_fit date v && ramadan_rows ramadan v)
    ∷ (latitude_tag, degrees_fit (neg (dec most_latitude 0)) (dec most_latitude 0) v)
    ∷ (longitude_tag, degrees_fit (neg (dec most_longitude 0)) (dec most_longitude 0) v)
    ∷ (minutes_tag, minutes_fit (minutes_in v))
    ∷ (fajr_angle_tag, degrees_fit (dec 0 0) (dec most_angle 0) v)
    ∷ (isha_angle_tag, degrees_fit (dec 0 0) (dec most_angle 0) v)
    ∷ (isha_interval_tag, interval_fits v)
    ∷ (clock_tag, clock_fits v)
    ∷ (map_latitude_tag, form_fits most_latitude (form_in v))
    ∷ (map_longitude_tag, form_fits most_longitude (form_in v))
    ∷ (ramadan_tag, ramadan_fits v) ∷ []

-- what the list has for a tag; `otherwise` if it has nothing
unfoldable pub look_up : ℕ → List (ℕ × Bool) → Bool → Bool
look_up tag [] otherwise = otherwise
look_up tag (entry ∷ rest) otherwise = cond (eqb tag entry.0) entry.1 (look_up tag rest otherwise)

abbrev pub fits_in : ℕ → List ℕ → (date : Date) → (ramadan : Bool) → Bool
fits_in tag v date ramadan = look_up tag (ranges v date ramadan) (choice_fits tag (byte_of v 0))

unfoldable pub fits_of : Values → ℕ → Bool
fits_of v tag = fits_in tag (v.value tag) (date_in (v.value date_tag)) (v.has ramadan_tag)

-- true if the order lacks the tag
unfoldable pub in_range_of : Values → ℕ → Bool
in_range_of v tag = cond (v.has tag) (fits_of v tag) true
