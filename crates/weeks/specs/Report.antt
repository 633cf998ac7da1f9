-- Document 02, request 11: the report of an order, on any bytes.
use Rattle.schedule.specs.declared.prayer_times.PrayerTimes.{PrayerTimes}
use Rattle.refusals.specs.declared.Refusal.{Refusal}
use Rattle.std.specs.Prelude.{ℕ, ◌-◌, ◌*◌, List, ◌-ℤ◌, Err, None, Ok, Option, Result, Some, ℤ}
use Rattle.calendar.specs.Answers.{row_date_of}
use Rattle.days.specs.Calls.{work_row_of}
use Rattle.integers.specs.Quotients.{floor_quot}
use Rattle.order.specs.declared.reading.Order.{Order}
use Rattle.order.specs.Ranges.{most_rows}
use Rattle.reports.specs.Reports.{report_text}
use Rattle.schedule.specs.Times.{start_of}
use Rattle.weeks.specs.Lines.{report_of}

-- "Fajr by the clock, in minutes after the row's own 0h UTC .. The minute is the second count divided by 60 and rounded down, also below
-- zero." Tag 16 has no part in it.
unfoldable pub minute_in : Order → ℕ → Result PrayerTimes Refusal → Option ℤ
minute_in o row (Ok t) = Some (floor_quot (t.fajr -ℤ start_of (row_date_of o.date row)) 60)
minute_in o row (Err r) = None

abbrev pub row_minute : Order → ℕ → Option ℤ
row_minute o row = minute_in o row (work_row_of o row)

abbrev pub orders_report : Order → List ℕ
orders_report o = report_of (row_minute o) o.rows

-- "It reads an order as the wear report does"
abbrev pub week_text : List ℕ → List ℕ
week_text s = report_text orders_report s

-- a line has at most 56 bytes: 3 digits of its first row; twice a blank, a minute (a sign and 20 digits), a blank and 3 digits; a newline
abbrev pub longest_week : ℕ
longest_week = 56 * (most_rows - 6)
