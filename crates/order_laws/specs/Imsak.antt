-- Request 12: "Imsak is the printed Fajr less those minutes", to the second, on every row that an order can have. Its days from the row's
-- date are one digit, as those of the nine times are (Printed). Proved in proofs/PrintedLaws.
use Rattle.std.specs.Prelude.{◌≡◌, ℕ, ◌*◌, ◌≤◌, pos, nat_abs, ◌-ℤ◌, Ok}
use Rattle.calendar.specs.Answers.{row_date_of}
use Rattle.days.specs.Calls.{work_row_of}
use Rattle.lines.specs.Lines.{days_of, imsak_of}
use Rattle.order.specs.Accepted.{Accepted}
use Rattle.order.specs.declared.reading.Order.{Order}
use Rattle.schedule.specs.declared.prayer_times.PrayerTimes.{PrayerTimes}

pub record ImsakPrinted (order : Order) (row : ℕ) (t : PrayerTimes) : Type 0 where
  pub exact : imsak_of order.ramadan.imsak t.fajr ≡ t.fajr -ℤ pos (60 * order.ramadan.imsak)
  pub days : nat_abs (days_of (row_date_of order.date row) (imsak_of order.ramadan.imsak t.fajr)) ≤ 5

abbrev pub ImsakIsPrintedWhole : Type 0
ImsakIsPrintedWhole =
    (order : Order) (row : ℕ) (t : PrayerTimes) → Accepted order → work_row_of order row ≡ Ok t → ImsakPrinted order row t
