-- What a call on a row returns, by the order's reading. Assumes nothing.
use Rattle.std.specs.Prelude.{Err, Ok, Result}
use Rattle.schedule.specs.declared.prayer_times.PrayerTimes.{PrayerTimes}
use Rattle.prelude.proofs.Logic.{◌≡◌, List, ℕ, ◌≤◌, ◌<◌, length, lt-ltb, le-ltb}
use Rattle.calendar.specs.Answers.{row_date_of}
use Rattle.calendar.specs.declared.dates.Date.{Date}
use Rattle.days.specs.Calls.{work_date_of, lacks_row, work_row_of}
use Rattle.refusals.specs.Refusals.{refusal}
use Rattle.lines.specs.Lines.{full_row, row_room}
use Rattle.refusals.specs.declared.Refusal.{Refusal}
use Rattle.order.specs.declared.reading.Order.{Order}
use Rattle.order.specs.Reading.{reading_of}
use Rattle.sheets.specs.Rows.{worked_call_of, read_call_of, row_call_of}

module _ (o : Order) (row : ℕ) (buffer : List ℕ) where
  -- a row that the order has, by its date
  pub row_there : (date : Date) (worked : Result PrayerTimes Refusal) → row < o.rows → date ≡ row_date_of o.date row → worked ≡ work_date_of o date
      → ((worked_call_of o.ramadan date worked buffer).answer ≡ (worked_call_of
      o.ramadan (row_date_of o.date row) (work_row_of o row) buffer).answer) × ((worked_call_of o.ramadan date worked buffer).buffer
      ≡ (worked_call_of o.ramadan (row_date_of o.date row) (work_row_of o row) buffer).buffer)
  unfolding work_row_of
  row_there date worked h d e = (simp (e, d, lt-ltb row o.rows h), simp (e, d, lt-ltb row o.rows h))

  pub row_lacking : o.rows ≤ row → (lacks_row ≡ (worked_call_of o.ramadan (row_date_of o.date row) (work_row_of o row) buffer).answer)
      × (buffer ≡ (worked_call_of o.ramadan (row_date_of o.date row) (work_row_of o row) buffer).buffer)
  unfolding work_row_of worked_call_of
  row_lacking h = (simp (le-ltb row o.rows h), simp (le-ltb row o.rows h))

  -- the buffer is shorter than a row of this order
  pub room-short : length buffer < row_room o.ramadan → (refusal 9 0 ≡ (read_call_of o row buffer).answer)
      × (buffer ≡ (read_call_of o row buffer).buffer)
  unfolding read_call_of
  room-short h = (simp (lt-ltb (length buffer) (row_room o.ramadan) h), simp (lt-ltb (length buffer) (row_room o.ramadan) h))

  pub room-there : row_room o.ramadan ≤ length buffer
      → ((worked_call_of o.ramadan (row_date_of o.date row) (work_row_of o row) buffer).answer ≡ (read_call_of o row buffer).answer)
      × ((worked_call_of o.ramadan (row_date_of o.date row) (work_row_of o row) buffer).buffer ≡ (read_call_of o row buffer).buffer)
  unfolding read_call_of
  room-there h = (simp (le-ltb (length buffer) (row_room o.ramadan) h), simp (le-ltb (length buffer) (row_room o.ramadan) h))

module _ (s buffer : List ℕ) (row : ℕ) where
  pub row-short : length buffer < full_row → (refusal 9 0 ≡ (row_call_of s row buffer).answer) × (buffer ≡ (row_call_of s row buffer).buffer)
  unfolding row_call_of
  row-short h = (simp (lt-ltb (length buffer) full_row h), simp (lt-ltb (length buffer) full_row h))

  module _ (h : full_row ≤ length buffer) where
    pub row_read : (o : Order) → reading_of s ≡ Ok o
        → ((read_call_of o row buffer).answer ≡ (row_call_of s row buffer).answer)
        × ((read_call_of o row buffer).buffer ≡ (row_call_of s row buffer).buffer)
    unfolding row_call_of
    row_read o e = (simp (le-ltb (length buffer) full_row h, e), simp (le-ltb (length buffer) full_row h, e))

    pub row-refused : (r : Refusal) → reading_of s ≡ Err r
        → (r ≡ (row_call_of s row buffer).answer) × (buffer ≡ (row_call_of s row buffer).buffer)
    unfolding row_call_of
    row-refused r e = (simp (le-ltb (length buffer) full_row h, e), simp (le-ltb (length buffer) full_row h, e))
