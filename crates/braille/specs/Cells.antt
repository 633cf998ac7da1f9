-- Document 02, request 2: the 39 cells of a row.
use Rattle.refusals.specs.declared.Refusal.{Refusal}
use Rattle.std.specs.Prelude.{ℕ, ◌/◌, ◌%◌, List, [], ◌∷◌, ◌++◌, ℤ, pos, ◌+ℤ◌, ◌*ℤ◌, replicate, Err, Ok, Result}
use Rattle.integers.specs.Quotients.{floor_quot, floor_rem}
use Rattle.calendar.specs.Days.{minutes_in_day}
use Rattle.calendar.specs.declared.dates.Date.{Date}
use Rattle.schedule.specs.declared.prayer_times.PrayerTimes.{PrayerTimes}
use Rattle.braille.specs.Braille.{blank, number_sign, digit_cell}

-- "A row has 39 cells"
abbrev pub row_length : ℕ
row_length = 39

abbrev two_cells : ℕ → List ℕ
two_cells n = digit_cell (n / 10) ∷ digit_cell n ∷ []

-- "number sign, two digits of the day": the day of the row's own date
unfoldable pub day_cells : Date → List ℕ
day_cells date = number_sign ∷ two_cells date.day

-- the clock's minutes are "added to the UTC instant before the hour is taken; seconds are dropped": rounded down, also before 1970
unfoldable pub clock_minute_of : ℤ → ℤ → ℕ
clock_minute_of clock time = floor_rem (floor_quot (time +ℤ clock *ℤ pos 60) 60) minutes_in_day

-- "a blank cell, number sign, hour and minute as four digits"
unfoldable pub time_cells : ℤ → ℤ → List ℕ
time_cells clock time =
    let minute = clock_minute_of clock time in
    (blank ∷ number_sign ∷ []) ++ two_cells (minute / 60) ++ two_cells (minute % 60)

-- "six times from Fajr to Isha"
abbrev pub six_of : PrayerTimes → List ℤ
six_of t = t.fajr ∷ t.sunrise ∷ t.dhuhr ∷ t.asr ∷ t.maghrib ∷ t.isha ∷ []

unfoldable pub times_cells : ℤ → List ℤ → List ℕ
times_cells clock [] = []
times_cells clock (time ∷ times) = time_cells clock time ++ times_cells clock times

-- "A refused day shows its day and 36 blanks"
unfoldable pub refused_cells : Date → List ℕ
refused_cells date = day_cells date ++ replicate 36 blank

unfoldable pub row_cells : Date → Result PrayerTimes Refusal → ℤ → List ℕ
row_cells date (Ok t) clock = day_cells date ++ times_cells clock (six_of t)
row_cells date (Err r) clock = refused_cells date
