-- Demand 1, whole, for any bytes that a school sends: "Nothing that a school sends breaks a run: every order is read or refused by number;
-- a day lacking transit, sunrise or sunset, its own or the next two days', is refused as that day only; the first broken rule in the stated
-- order gives the number; a refused call changes no lent byte; every call returns." The language gives that every call returns: it builds
-- no function that is not proved to end. Proved in proofs/NothingBreaksLaws.
use Rattle.schedule.specs.declared.prayer_times.PrayerTimes.{PrayerTimes}
use Rattle.std.specs.Prelude.{ℕ, zero, suc, ◌≤◌, ◌<◌, ◌≡◌, true, false, cond, List, [], ◌∷◌, ◌++◌, eqb, length, Err, Ok, Result}
use Rattle.prelude.specs.Lists.{listed}
use Rattle.refusals.specs.Refusals.{field_cut, field_unknown, field_again, tag_missing, out_of_range, no_transit, no_sunrise, no_sunset, both_forms}
use Rattle.refusals.specs.Refusals.{not_first_of_ramadan, refusal, no_refusal}
use Rattle.refusals.specs.declared.Refusal.{Refusal}
use Rattle.calendar.specs.Answers.{row_date_of}
use Rattle.calendar.specs.declared.dates.Date.{Date}
use Rattle.braille.specs.Cells.{row_length}
use Rattle.days.specs.Calls.{work_date_of, work_day_of}
use Rattle.fields.specs.Fields.{check_of}
use Rattle.fields.specs.Values.{values_of}
use Rattle.lines.specs.Lines.{line_text}
use Rattle.order.specs.Reading.{checks_of, reading_of, town_of}
use Rattle.order.specs.declared.reading.Order.{Order}
use Rattle.pages.specs.Answers.{one_row, piece_in, cells_call_of, page_call_of}
use Rattle.pages.specs.Pages.{cells_of, page_of}
use Rattle.sheets.specs.Rows.{row_call_of, head_text, sheet_text}
use Rattle.schedule.specs.Numbers.{numbers_of}
use Rattle.sentences.specs.Sentences.{sentence_of, sentence_call_of}
use Rattle.solar.specs.Times.{missing_number_of, solar_time_of}
use Rattle.solar.specs.declared.times.Missing.{Missing}
use Rattle.solar.specs.declared.times.SolarTime.{SolarTime}
use Rattle.text.specs.Text.{front_of}

-- ---- "every order is read or refused by number"
abbrev pub order_numbers : List ℕ
order_numbers = field_cut ∷ field_unknown ∷ field_again ∷ tag_missing ∷ out_of_range ∷ both_forms ∷ not_first_of_ramadan ∷ []

-- and each of these numbers refuses some order
abbrev pub EachRefusalIsGiven : Type 0
EachRefusalIsGiven = (number : ℕ) → listed order_numbers number ≡ true
    → (bytes : List ℕ) × (place : ℕ) × (reading_of bytes ≡ Err (refusal number place))

-- "the first broken rule in the stated order gives the number": each rule is given by its refusal, and the rules before r refuse nothing
pub data FirstBroken (r : Refusal) : List Refusal → Type 0 where
  here : {rest : List Refusal} → eqb r.number 0 ≡ false → FirstBroken r (r ∷ rest)
  later : {kept : Refusal} {rest : List Refusal} → eqb kept.number 0 ≡ true → FirstBroken r rest → FirstBroken r (kept ∷ rest)

-- ---- "a day lacking transit, sunrise or sunset, its own or the next two days', is refused"
abbrev pub day_numbers : List ℕ
day_numbers = no_transit ∷ no_sunrise ∷ no_sunset ∷ []

-- a date's own day and the next two: each has the sun's times, or the time that it lacks
abbrev pub three_days : Order → Date → List (Result SolarTime Missing)
three_days o date =
    let numbers = numbers_of date o.setting.coordinates o.setting.parameters in
    let rule = o.setting.rules.midnight in
    solar_time_of rule numbers.today ∷ solar_time_of rule numbers.tomorrow ∷ solar_time_of rule numbers.after ∷ []

-- the first of some days that lacks a time: the number of what it lacks, and how many days are before it
pub data FirstLacking (number : ℕ) : ℕ → List (Result SolarTime Missing) → Type 0 where
  here : {missing : Missing} {rest : List (Result SolarTime Missing)}
      → missing_number_of missing ≡ number → FirstLacking number 0 (Err missing ∷ rest)
  later : {place : ℕ} {day : SolarTime} {rest : List (Result SolarTime Missing)}
      → FirstLacking number place rest → FirstLacking number (suc place) (Ok day ∷ rest)

pub record RefusedDay (o : Order) (date : Date) (r : Refusal) : Type 0 where
  pub number : listed day_numbers r.number ≡ true
  pub place : r.place ≤ 2
  pub lacking : FirstLacking r.number r.place (three_days o date)

-- ---- "as that day only": the line of a row depends on its own date
abbrev pub row_line : Order → ℕ → List ℕ
row_line o row = let date = row_date_of o.date row in line_text o.ramadan date (work_date_of o date)

-- what the rows 0 to n - 1 give, one after another
unfoldable pub each_of : (ℕ → List ℕ) → ℕ → List ℕ
each_of of zero = []
each_of of (suc n) = each_of of n ++ of n

-- the line of a row, if working row `one` gave w
abbrev pub instead_of : Order → ℕ → Result PrayerTimes Refusal → ℕ → List ℕ
instead_of o one w row = cond (eqb row one) (line_text o.ramadan (row_date_of o.date one) w) (row_line o row)

-- the lines before and after row `one` are the same, whether working it gives times or a refusal
pub record OthersStay (o : Order) (one : ℕ) : Type 0 where
  pub before : List ℕ
  pub after : List ℕ
  pub now : each_of (row_line o) o.rows ≡ before ++ row_line o one ++ after
  pub instead : (w : Result PrayerTimes Refusal) → each_of (instead_of o one w) o.rows ≡ before ++ line_text o.ramadan (row_date_of o.date one) w ++ after

-- ---- "a refused call changes no lent byte"; else the text is at the front, has room there, and the bytes after it stay
pub record Lent (number : ℕ) (text before after : List ℕ) : Type 0 where
  pub refused : eqb number 0 ≡ false → after ≡ before
  pub written : eqb number 0 ≡ true → (length text ≤ length before) × (after ≡ front_of text before)

-- what is written for an order: nothing if it is refused
abbrev pub written_for : (Order → List ℕ) → Result Order Refusal → List ℕ
written_for of (Ok o) = of o
written_for of (Err r) = []

-- ---- the whole demand
pub record NothingBreaks (s : List ℕ) : Type 0 where
  pub order : (r : Refusal) → reading_of s ≡ Err r → listed order_numbers r.number ≡ true
  -- the form of the fields, missing tags, both forms of a coordinate, ranges, the start of a Ramadan sheet
  pub first : (r : Refusal) → reading_of s ≡ Err r → FirstBroken r (check_of s ∷ checks_of (values_of s))
  -- a row that the order has gives nine times, or is refused by 6, 7 or 8 and the day; and it is refused if a day lacks a time
  pub day : (o : Order) (row : ℕ) (r : Refusal) → reading_of s ≡ Ok o → row < o.rows → work_day_of s row ≡ Err r
      → RefusedDay o (row_date_of o.date row) r
  pub lacking : (o : Order) (row : ℕ) (r : Refusal) → reading_of s ≡ Ok o → row < o.rows
      → FirstLacking r.number r.place (three_days o (row_date_of o.date row)) → work_day_of s row ≡ Err r
  -- request 2: "a row or page of cells is not itself refused for it", a refused day
  pub shown : (o : Order) (row : ℕ) (buffer : List ℕ) → reading_of s ≡ Ok o → row < o.rows → row_length ≤ length buffer
      → (cells_call_of s row buffer).answer.refusal ≡ no_refusal
  pub page_shown : (o : Order) (page first : ℕ) (scratch : List ℕ) → reading_of s ≡ Ok o → first < length (page_of o page)
      → row_length ≤ length scratch → (page_call_of s page first scratch).answer.refusal ≡ no_refusal
  -- the sheet has a line for each row, which depends on that row alone
  pub sheet : (o : Order) → reading_of s ≡ Ok o → sheet_text s ≡ head_text o.ramadan (town_of s) ++ each_of (row_line o) o.rows
  pub only : (o : Order) (row : ℕ) → reading_of s ≡ Ok o → row < o.rows → OthersStay o row
  -- the calls that write: a row, a row of cells, a page of cells or a piece of it
  pub row : (row : ℕ) (buffer : List ℕ) → let call = row_call_of s row buffer in
      Lent call.answer.number (written_for (λ o. row_line o row) (reading_of s)) buffer call.buffer
  pub cells : (row : ℕ) (buffer : List ℕ) → let call = cells_call_of s row buffer in
      Lent call.answer.refusal.number (written_for (λ o. cells_of (one_row row o)) (reading_of s)) buffer call.buffer
  pub page : (page first : ℕ) (scratch : List ℕ) → let call = page_call_of s page first scratch in
      Lent call.answer.refusal.number (written_for (λ o. cells_of (piece_in page first scratch o)) (reading_of s)) scratch call.buffer
  -- and the sentence of a refusal
  pub sentence : (number place : ℕ) (buffer : List ℕ) → let call = sentence_call_of number place buffer in
      Lent call.answer.number (sentence_of number place) buffer call.buffer

abbrev pub NothingBreaksARun : Type 0
NothingBreaksARun = (s : List ℕ) → NothingBreaks s
