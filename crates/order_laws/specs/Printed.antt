-- Document 01, "The sheet": "each as signed days from the row's date". The days of every time that a sheet prints have one digit, so no
-- digit is lost. Proved in proofs/PrintedLaws.
use Rattle.std.specs.Prelude.{◌≡◌, ℕ, ◌≤◌, ◌<◌, pos, nat_abs, get_or, Ok}
use Rattle.calendar.specs.Answers.{row_date_of}
use Rattle.days.specs.Calls.{work_row_of}
use Rattle.lines.specs.Lines.{days_of, nine_of}
use Rattle.order.specs.Accepted.{Accepted}
use Rattle.order.specs.declared.reading.Order.{Order}
use Rattle.schedule.specs.declared.prayer_times.PrayerTimes.{PrayerTimes}

abbrev pub DaysArePrintedWhole : Type 0
DaysArePrintedWhole =
    (order : Order) (row : ℕ) (t : PrayerTimes) (i : ℕ) → Accepted order → work_row_of order row ≡ Ok t → i < 9
    → nat_abs (days_of (row_date_of order.date row) (get_or (nine_of t) i (pos 0))) ≤ 4
