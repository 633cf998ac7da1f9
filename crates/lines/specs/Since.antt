-- This file need not be believed: a row's line from times that are counted from 0h of its date. proofs/SinceLaws.antt says that it is the
-- line of Lines. A time since 0h is written as one of 1970-01-01, whose day has the number 0.
use Rattle.schedule.specs.declared.prayer_times.PrayerTimes.{PrayerTimes}
use Rattle.refusals.specs.declared.Refusal.{Refusal}
use Rattle.std.specs.Prelude.{List, ◌++◌, ℕ, ℤ, Err, Ok, Result}
use Rattle.calendar.specs.Gregorian.{date_of}
use Rattle.calendar.specs.declared.dates.Date.{Date}
use Rattle.hijri.specs.declared.ramadan.Ramadan.{Ramadan}
use Rattle.text.specs.Text.{ascii}
use Rattle.lines.specs.Lines.{date_text, times_text, columns_of, refused_day_text}

abbrev pub epoch : Date
epoch = date_of 1970 1 1

unfoldable pub row_since : Date → List ℤ → List ℕ
row_since date times = date_text date ++ times_text epoch times ++ ascii "\n"

unfoldable pub line_since : Ramadan → Date → Result PrayerTimes Refusal → List ℕ
line_since ramadan date (Ok t) = row_since date (columns_of ramadan t)
line_since ramadan date (Err r) = refused_day_text date r
