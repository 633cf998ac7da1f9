-- A place sent either way gives the same record but for where the town is, and so every call returns the same. Assumes nothing.
use Rattle.std.specs.Prelude.{Err, Ok, Option, Result, ℤ}
use Rattle.schedule.specs.declared.prayer_times.PrayerTimes.{PrayerTimes}
use Rattle.refusals.specs.declared.Refusal.{Refusal}
use Rattle.prelude.proofs.Logic.{◌≡◌, refl, sym, ap, ◌∙◌, fun_ext, true, false, List, ◌∷◌, ◌++◌, ℕ, zero, suc, ◌+◌, ◌≤◌, leb, leb-true}
use Rattle.float64.proofs.Floats.{Float}
use Rattle.calendar.specs.Answers.{row_date_of}
use Rattle.days.specs.Calls.{work_row_of, work_reading_of, work_day_of, work_at_of, prayer_at_of, next_at_of, remaining_at_of}
use Rattle.fields.specs.Tags.{last_tag}
use Rattle.fields.specs.Values.{has_of, value_of, values_of}
use Rattle.fields.specs.declared.values.Part.{Part}
use Rattle.lines.specs.Lines.{line_text}
use Rattle.models.specs.{declared.prayer.Prayer.Prayer}
use Rattle.order.specs.Given.{byte_or, degrees_or, rounding_or, minutes_or, interval_or, parameters_in, rules_in, clock_in, ramadan_in}
use Rattle.order.specs.Reading.{order_of, reading_of, town_of}
use Rattle.order.specs.declared.reading.{Order.Order}
use Rattle.order.proofs.ReadingLaws.{read_passed, town_value}
use Rattle.braille.specs.Cells.{row_length}
use Rattle.pages.specs.Pages.{Rows, row_of, rows_from, page_of, page_count, pages_cells, all_cells}
use Rattle.pages.specs.Answers.{asked_call_of, one_row, piece_in}
use Rattle.pages.specs.Reports.{wear_text, cells_text}
use Rattle.reports.specs.Reports.{report_in}
use Rattle.sheets.specs.Rows.{lines_text, accepted_text, sheet_text, read_call_of, row_call_of}
use Rattle.schedule.specs.declared.{in_force.Instant.Instant}
use Rattle.weeks.specs.Lines.{report_of}
use Rattle.weeks.specs.Report.{minute_in, row_minute, orders_report, week_text}
use Rattle.order_laws.specs.EitherForm.{says_place, SamePlace, with_town, SameAnswers, EitherFormAnswersAlike, EitherFormMovesAlike}

-- ---- where the town is in the bytes changes nothing
lines_same : (o : Order) (town : Part) (n : ℕ) → lines_text (with_town o town) n ≡ lines_text o n
unfolding lines_text work_row_of
lines_same o town zero = refl
lines_same o town (suc n) = ap (λ (t : List ℕ). t ++ line_text o.ramadan (row_date_of o.date n) (work_row_of o n)) (lines_same o town n)

text_same : (name : List ℕ) (o : Order) (town : Part) → accepted_text name (with_town o town) ≡ accepted_text name o
unfolding accepted_text
text_same name o town = rw (lines_same o town o.rows)

rows_same : (o : Order) (town : Part) (k n : ℕ) → rows_from (with_town o town) k n ≡ rows_from o k n
unfolding rows_from work_row_of
rows_same o town k zero = refl
rows_same o town k (suc n) = ap (λ (rest : Rows). row_of o k ∷ rest) (rows_same o town (k + 1) n)

page_same : (o : Order) (town : Part) (page : ℕ) → page_of (with_town o town) page ≡ page_of o page
unfolding page_of
page_same o town zero = refl
page_same o town (suc p) = rw (rows_same o town 0 o.rows)

pages_same : (o : Order) (town : Part) (n : ℕ) → pages_cells (with_town o town) n ≡ pages_cells o n
unfolding pages_cells
pages_same o town zero = refl
pages_same o town (suc p) = rw (pages_same o town p, page_same o town (suc p))

minute_same : (o : Order) (town : Part) (row : ℕ) (w : Result PrayerTimes Refusal) → minute_in (with_town o town) row w ≡ minute_in o row w
unfolding minute_in
minute_same o town row (Ok t) = refl
minute_same o town row (Err r) = refl

minutes_same : (o : Order) (town : Part) → row_minute (with_town o town) ≡ row_minute o
unfolding work_row_of
minutes_same o town = fun_ext (λ row. minute_same o town row (work_row_of o row))

one_same : (row : ℕ) (o : Order) (town : Part) → one_row row (with_town o town) ≡ one_row row o
unfolding one_row work_row_of
one_same row o town = refl

piece_same : (page first : ℕ) (scratch : List ℕ) (o : Order) (town : Part)
    → piece_in page first scratch (with_town o town) ≡ piece_in page first scratch o
piece_same page first scratch o town = rw (page_same o town page)

-- ---- what the calls return for two orders whose records are the same but for where the town is
module _ (a b : List ℕ) (o p : Order) (x : reading_of a ≡ Ok o) (y : reading_of b ≡ Ok p) (given : with_town o p.town ≡ p)
    (town : town_of a ≡ town_of b) where
  sheet-same : sheet_text a ≡ sheet_text b
  unfolding report_in
  sheet-same = rw (x, y, town, ← text_same (town_of b) o p.town, given)

  day-same : (row : ℕ) → work_day_of a row ≡ work_day_of b row
  unfolding work_day_of work_reading_of work_row_of
  day-same row = rw (x, y, ← given)

  at_same : (row : ℕ) (i : Instant) → work_at_of a row i ≡ work_at_of b row i
  unfolding work_at_of
  at_same row i = rw (day-same row)

  row_same : (row : ℕ) (buffer : List ℕ) → row_call_of a row buffer ≡ row_call_of b row buffer
  unfolding row_call_of read_call_of work_row_of
  row_same row buffer = rw (x, y, ← given)

  all_same : all_cells o ≡ all_cells p
  all_same = sym (pages_same o p.town (page_count o)) ∙ ap all_cells given

  wear-same : wear_text a ≡ wear_text b
  unfolding report_in
  wear-same = rw (x, y, all_same)

  cells_same : cells_text a ≡ cells_text b
  unfolding report_in
  cells_same = rw (x, y) all_same

  week-same : week_text a ≡ week_text b
  unfolding report_in
  week-same =
      rw (x, y)
      (ap (λ (f : ℕ → Option ℤ). report_of f o.rows) (sym (minutes_same o p.town)) ∙ ap orders_report given)

  -- a call on some rows of an order that do not depend on its town
  asked-same : (asked : Order → Rows) → ((town : Part) → asked (with_town o town) ≡ asked o) → (buffer : List ℕ)
      → asked_call_of asked row_length a buffer ≡ asked_call_of asked row_length b buffer
  unfolding asked_call_of
  asked-same asked town-free buffer = rw (x, y, ← town-free p.town, given)

  pub answered-alike : SameAnswers a b
  unfolding prayer_at_of next_at_of remaining_at_of
  answered-alike =
      record {
        town = town;
        sheet = sheet-same;
        day = day-same;
        prayer = λ row i. rw (at_same row i);
        next = λ row i. rw (at_same row i);
        remaining = λ row i. rw (at_same row i);
        row_call = row_same;
        cells_call = λ row buffer. asked-same (one_row row) (one_same row o) buffer;
        page_call = λ page first scratch. asked-same (piece_in page first scratch) (piece_same page first scratch o) scratch;
        wear = wear-same;
        cells = cells_same;
        week = week-same;
      }

-- ---- what the tags give
-- a tag that does not say the place gives the same in both orders; the conditions are Booleans, so `simp` decides them
module _ (a b : List ℕ)
    (others : (tag : ℕ) → tag ≤ last_tag → says_place tag ≡ false → (has_of a tag ≡ has_of b tag) × (value_of a tag ≡ value_of b tag)) where
  pub has : (tag : ℕ) → leb tag last_tag ≡ true → says_place tag ≡ false → has_of a tag ≡ has_of b tag
  has tag l e = (others tag (leb-true tag last_tag l) e).0

  pub value : (tag : ℕ) → leb tag last_tag ≡ true → says_place tag ≡ false → value_of a tag ≡ value_of b tag
  value tag l e = (others tag (leb-true tag last_tag l) e).1

module _ (a b : List ℕ) (orders : SamePlace a b) where
  first-same : order_of (values_of a) ≡ orders.first
  first-same = (read_passed a orders.first orders.first_read).same

  second-same : order_of (values_of b) ≡ orders.second
  second-same = (read_passed b orders.second orders.second_read).same

  -- what the two orders have alike, their values have alike
  alike : (f : Order → Float) → f orders.first ≡ f orders.second → f (order_of (values_of a)) ≡ f (order_of (values_of b))
  alike f e = ap f first-same ∙ e ∙ sym (ap f second-same)

  given-same : with_town (order_of (values_of a)) (order_of (values_of b)).town ≡ order_of (values_of b)
  unfolding order_of parameters_in degrees_or byte_or rounding_or minutes_or interval_or rules_in clock_in ramadan_in
  given-same =
      simp (
        has a b orders.others,
        value a b orders.others,
        alike (λ (o : Order). o.setting.coordinates.latitude) orders.latitude,
        alike (λ (o : Order). o.setting.coordinates.longitude) orders.longitude,
      )

  given : with_town orders.first orders.second.town ≡ orders.second
  given = rw (← first-same, ← second-same) given-same

  town-same : town_of a ≡ town_of b
  town-same = rw (town_value a orders.first orders.first_read, town_value b orders.second orders.second_read)
      (value a b orders.others 1 refl refl)

pub either_form_answers_alike : EitherFormAnswersAlike
either_form_answers_alike a b orders =
    let same = given a b orders in
    (same, answered-alike a b orders.first orders.second orders.first_read orders.second_read same (town-same a b orders))

-- ---- demand 3
pub either_form_moves_alike : EitherFormMovesAlike
either_form_moves_alike a b c d p q later =
    let f : p.first ≡ later.first = cc in
    let g : q.first ≡ later.second = cc in
    let x = ap (λ (o : Order). with_town o p.second.town) (sym f) ∙ given a c p in
    let y = ap (λ (o : Order). with_town o q.second.town) (sym g) ∙ given b d q in
    record {
      first = p.second;
      second = q.second;
      first_read = p.second_read;
      second_read = q.second_read;
      town = sym (town-same a c p) ∙ later.town ∙ town-same b d q;
      alike = rw (← x, ← y) (ap (λ (o : Order). with_town o q.second.town) later.alike);
      more = λ (prayer : Prayer). rw (← x, ← y) (later.more prayer);
    }
