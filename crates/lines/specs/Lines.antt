-- Document 01, "The sheet": the lines of a sheet, as bytes of ASCII.
use Rattle.std.specs.Prelude.{ℕ, ◌+◌, ◌*◌, ◌/◌, ◌%◌, cond, List, [], ◌∷◌, ◌++◌, ℤ, pos, negsuc, nat_abs, ◌-ℤ◌, Err, Ok, Result}
use Rattle.std.specs.Int.Signed.{le_z}
use Rattle.integers.specs.Ends.{least64}
use Rattle.integers.specs.Quotients.{floor_quot, floor_rem}
use Rattle.calendar.specs.declared.dates.Date.{Date}
use Rattle.calendar.specs.Days.{day_number_of}
use Rattle.hijri.specs.declared.ramadan.Ramadan.{Ramadan}
use Rattle.refusals.specs.declared.Refusal.{Refusal}
use Rattle.schedule.specs.declared.prayer_times.PrayerTimes.{PrayerTimes}
use Rattle.text.specs.Text.{ascii, digit_of, decimal_of}

abbrev two_digits : ℕ → List ℕ
two_digits n = digit_of (n / 10) ∷ digit_of n ∷ []

abbrev four_digits : ℕ → List ℕ
four_digits n = digit_of (n / 1000) ∷ digit_of (n / 100) ∷ two_digits n

-- 2026-06-21
unfoldable pub date_text : Date → List ℕ
date_text date = four_digits date.year ++ (45 ∷ two_digits date.month) ++ (45 ∷ two_digits date.day)

-- ---- a time: "signed days from the row's date, T, UTC time (`+0T05:12:00`)", after a blank
abbrev pub days_of : Date → ℤ → ℤ
days_of date time = floor_quot time 86400 -ℤ day_number_of date

abbrev pub sign_of : ℤ → ℕ
sign_of (pos n) = 43
sign_of (negsuc n) = 45

abbrev pub clock_text : ℕ → List ℕ
clock_text second = two_digits (second / 3600) ++ (58 ∷ two_digits (second / 60 % 60)) ++ (58 ∷ two_digits (second % 60))

unfoldable pub time_text : Date → ℤ → List ℕ
time_text date time =
    let days = days_of date time in
    (32 ∷ sign_of days ∷ digit_of (nat_abs days) ∷ 84 ∷ []) ++ clock_text (floor_rem time 86400)

-- ---- "one line a row: date, then nine times in the header's order"
abbrev pub nine_of : PrayerTimes → List ℤ
nine_of t = t.fajr ∷ t.sunrise ∷ t.dhuhr ∷ t.asr ∷ t.maghrib ∷ t.isha ∷ t.middle_of_the_night ∷ t.qiyam ∷ t.fajr_tomorrow ∷ []

-- request 12: "Imsak is the printed Fajr less those minutes". If 64 bits do not hold that instant, it is the earliest one that they hold.
-- No order's imsak is so early (crates/order_laws/specs/Imsak.antt).
unfoldable pub imsak_of : ℕ → ℤ → ℤ
imsak_of minutes fajr = let time = fajr -ℤ pos (60 * minutes) in cond (le_z least64 time) time least64

-- "and stands between the date and Fajr"
unfoldable pub columns_of : Ramadan → PrayerTimes → List ℤ
columns_of ramadan t = cond ramadan.set (imsak_of ramadan.imsak t.fajr ∷ nine_of t) (nine_of t)

unfoldable pub times_text : Date → List ℤ → List ℕ
times_text date [] = []
times_text date (time ∷ times) = time_text date time ++ times_text date times

unfoldable pub row_text : Date → List ℤ → List ℕ
row_text date times = date_text date ++ times_text date times ++ ascii "\n"

-- the bytes of a row by its columns: a date has 10 bytes and a time 12 with its blank; a newline ends the line
abbrev pub row_bytes : ℕ → ℕ
row_bytes columns = 10 + 12 * columns + 1

-- "a full row has 119 bytes with its newline"
abbrev pub full_row : ℕ
full_row = row_bytes 9

-- request 12: "so a full row has 131 bytes", if tag 20 is set
unfoldable pub row_room : Ramadan → ℕ
row_room ramadan = row_bytes (cond ramadan.set 10 9)

-- ---- a refusal's line: what is refused, its number, and its place after a word
unfoldable pub number_text : List ℕ → ℕ → List ℕ
number_text word n = word ++ decimal_of n

unfoldable pub refused_text : List ℕ → List ℕ → Refusal → List ℕ
refused_text whose word r = whose ++ number_text (ascii " refused ") r.number ++ number_text word r.place ++ ascii "\n"

-- `2026-06-21 refused 7 day 0`
abbrev pub refused_day_text : Date → Refusal → List ℕ
refused_day_text date r = refused_text (date_text date) (ascii " day ") r

-- `order refused 5 place 2`
abbrev pub refused_order_text : Refusal → List ℕ
refused_order_text r = refused_text (ascii "order") (ascii " place ") r

-- ---- "a refused day prints as below and the run goes on"
unfoldable pub line_text : Ramadan → Date → Result PrayerTimes Refusal → List ℕ
line_text ramadan date (Ok t) = row_text date (columns_of ramadan t)
line_text ramadan date (Err r) = refused_day_text date r
