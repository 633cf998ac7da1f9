-- Document 01, "The sheet": what writing a row returns and leaves in the buffer, and the whole text of an order's sheet.
use Rattle.schedule.specs.declared.prayer_times.PrayerTimes.{PrayerTimes}
use Rattle.std.specs.Prelude.{ℕ, zero, suc, ◌+◌, ◌*◌, cond, List, [], ◌++◌, ltb, length, Err, Ok, Result}
use Rattle.calendar.specs.Answers.{row_date_of}
use Rattle.calendar.specs.declared.dates.Date.{Date}
use Rattle.days.specs.Calls.{work_row_of}
use Rattle.fields.specs.Tags.{longest_town}
use Rattle.hijri.specs.declared.ramadan.Ramadan.{Ramadan}
use Rattle.refusals.specs.Refusals.{refusal, no_refusal, buffer_short}
use Rattle.lines.specs.Lines.{columns_of, row_text, full_row, row_room, line_text}
use Rattle.refusals.specs.declared.Refusal.{Refusal}
use Rattle.reports.specs.Reports.{report_text}
use Rattle.order.specs.declared.reading.Order.{Order}
use Rattle.order.specs.Ranges.{most_rows}
use Rattle.order.specs.Reading.{reading_of, town_of}
use Rattle.text.specs.Printed.{Printed, printed_of}
use Rattle.text.specs.Text.{ascii, front_of}

-- ---- a row: what a call returns, and every byte of the lent buffer after it
pub record RowCall : Type 0 where
  pub answer : Refusal
  pub buffer : List ℕ

-- "A refusal .. changes no lent byte."
abbrev pub refusing : Refusal → List ℕ → RowCall
refusing r buffer = record { answer = r; buffer = buffer }

-- "a full row has 119 bytes with its newline, at the front of the row buffer; the bytes after them stay"
unfoldable pub worked_call_of : Ramadan → Date → Result PrayerTimes Refusal → List ℕ → RowCall
worked_call_of ramadan date (Ok t) buffer =
    record { answer = no_refusal; buffer = front_of (row_text date (columns_of ramadan t)) buffer }
worked_call_of ramadan date (Err r) buffer = refusing r buffer

-- for an order that is read. Request 12: a buffer "of 119 to 130" bytes is 9 "once the order is accepted with tag 20, before the row"
unfoldable pub read_call_of : Order → ℕ → List ℕ → RowCall
read_call_of o row buffer =
    cond (ltb (length buffer) (row_room o.ramadan)) (refusing (refusal buffer_short 0) buffer)
    (worked_call_of o.ramadan (row_date_of o.date row) (work_row_of o row) buffer)

abbrev call_in : Result Order Refusal → ℕ → List ℕ → RowCall
call_in (Ok o) row buffer = read_call_of o row buffer
call_in (Err r) row buffer = refusing r buffer

-- 9 is "row buffer under 119 bytes"; "buffer and instant are checked before anything else in their calls"
unfoldable pub row_call_of : List ℕ → ℕ → List ℕ → RowCall
row_call_of s row buffer = cond (ltb (length buffer) full_row) (refusing (refusal buffer_short 0) buffer) (call_in (reading_of s) row buffer)

-- ---- the sheet: "the town, the header, one line a row"
-- request 12: imsak "stands between the date and Fajr, under the header word imsak"
unfoldable pub header_text : Ramadan → List ℕ
header_text ramadan =
    cond ramadan.set (ascii "\ndate imsak fajr sunrise dhuhr asr maghrib isha middle qiyam tomorrow\n")
    (ascii "\ndate fajr sunrise dhuhr asr maghrib isha middle qiyam tomorrow\n")

unfoldable pub head_text : Ramadan → List ℕ → List ℕ
head_text ramadan town = town ++ header_text ramadan

-- the lines of the first n rows
unfoldable pub lines_text : Order → ℕ → List ℕ
lines_text o zero = []
lines_text o (suc n) = lines_text o n ++ line_text o.ramadan (row_date_of o.date n) (work_row_of o n)

unfoldable pub accepted_text : List ℕ → Order → List ℕ
accepted_text town o = head_text o.ramadan town ++ lines_text o o.rows

-- "a refused order prints `order refused 5 place 2` alone"
abbrev pub sheet_text : List ℕ → List ℕ
sheet_text s = report_text (accepted_text (town_of s)) s

-- the header, and a newline before and after it
abbrev header_bytes : ℕ
header_bytes = 64

-- the longest sheet: the longest town, the header, and as many full rows as an order can have; a Ramadan sheet has thirty rows
abbrev pub longest_sheet : ℕ
longest_sheet = longest_town + header_bytes + full_row * most_rows

abbrev pub sheet_call_of : List ℕ → List ℕ → Printed
sheet_call_of s buffer = printed_of longest_sheet (sheet_text s) buffer
