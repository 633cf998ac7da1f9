-- Nothing that a school sends breaks a run. Assumes nothing.
use Rattle.std.specs.Prelude.{Err, Ok, Result}
use Rattle.schedule.specs.declared.prayer_times.PrayerTimes.{PrayerTimes}
use Rattle.solar.specs.declared.times.SolarTime.{SolarTime}
use Rattle.prelude.proofs.Logic.{◌≡◌, refl, sym, ap, ◌∙◌, subst, true, false, true≢false, List, [], ◌∷◌, ◌++◌, append_assoc, append-nil, ℕ}
use Rattle.prelude.proofs.Logic.{zero, suc, ◌+◌, ◌-◌, ◌/◌, ◌≤◌, ◌<◌, arith, leb, ltb, eqb, lit≤, length, take, drop, ltb-true, ltb-false}
use Rattle.prelude.proofs.Logic.{lt-ltb, leb-true, eq-eqb, ne_eqb, eqb-true, eqb-false, take-nil, drop_of_length-le, cases, arms}
use Rattle.prelude.proofs.Logic.{le-ltb, length-take, length-drop}
use Rattle.prelude.specs.Lists.{listed}
use Rattle.braille.specs.Cells.{row_length}
use Rattle.calendar.specs.{Answers.row_date_of, declared.dates.Date.Date}
use Rattle.days.specs.Calls.{work_date_of, work_row_of, work_reading_of, work_day_of}
use Rattle.fields.specs.{Fields.check_of, Values.values_of}
use Rattle.lines.specs.Lines.{full_row, row_room, line_text}
use Rattle.lines.proofs.LinesLaws.{columns_length}
use Rattle.models.specs.declared.{parameters.Parameters.Parameters, rules.Season.Season}
use Rattle.order.specs.Reading.{checks_of, order_of, first_of, reading_of, town_of}
use Rattle.order.specs.declared.reading.{Order.Order}
use Rattle.order.proofs.ReadingLaws.{Refusing, refused_by}
use Rattle.pages.specs.Answers as pages
use Rattle.pages.specs.Answers.{put_call_of, asked_call_of, one_row, piece_in}
use Rattle.pages.specs.Pages.{Rows, rows_from, cells_of, page_of, piece_of}
use Rattle.pages.proofs.RowsLaws.{cells-length, take-rows, drop-rows}
use Rattle.refusals.specs.{Refusals.refusal, Refusals.no_refusal, declared.Refusal.Refusal}
use Rattle.reports.specs.Reports.{report_in}
use Rattle.sheets.proofs.Answers.{row-short, row_read, row-refused}
use Rattle.sheets.specs.Rows.{worked_call_of, read_call_of, row_call_of, head_text, lines_text, accepted_text, sheet_text}
use Rattle.schedule.proofs.Schedule.{numbered_of, suns_of, hours_of, numbers_of, season_of, started_in, since_from, since_of}
use Rattle.schedule.specs.declared.{hours.RowHours.RowHours, hours.RowNumbers.RowNumbers}
use Rattle.sentences.specs.{Sentences.sentence_of, Sentences.sentence_call_of, Table.known}
use Rattle.solar.specs.Times.{missing_number_of, solar_time_of}
use Rattle.solar.specs.declared.times.Missing.{Missing}
use Rattle.solar.specs.declared.times.Missing.TheVariants.{Transit, Sunrise, Sunset}
use Rattle.text.specs.Text.{front_of}
use Rattle.order_laws.specs.NothingBreaks.{order_numbers, day_numbers, FirstBroken, FirstLacking, three_days, RefusedDay, row_line}
use Rattle.order_laws.specs.NothingBreaks.{each_of, instead_of, OthersStay, Lent, written_for, NothingBreaksARun}

-- ---- an order's numbers
is_listed : (n : ℕ) → Refusing n → listed order_numbers n ≡ true
unfolding listed
is_listed zero h = absurd (omega (arith, h.some))
is_listed (suc zero) h = refl
is_listed (suc (suc zero)) h = refl
is_listed (suc (suc (suc zero))) h = refl
is_listed (suc (suc (suc (suc zero)))) h = refl
is_listed (suc (suc (suc (suc (suc zero))))) h = refl
is_listed (suc (suc (suc (suc (suc (suc k)))))) h =
    let l = h.which (omega arith) in
    cases (eqb k 12) (λ e. let n = eqb-true k 12 e in rw n refl)
    (λ e. let n = eqb-false k 12 e in let f : k ≡ 9 = omega (arith, l.most, l.otherwise (omega (arith, l.most))) in rw f refl)

first_broken : (rules : List Refusal) (o : Order) (r : Refusal) → first_of rules o ≡ Err r → FirstBroken r rules
unfolding first_of
first_broken [] o r e = let z : ◌≡◌ {A = ℕ} 0 1 = cc in absurd (omega arith)
first_broken (q ∷ rest) o r e =
    cases (eqb q.number 0) (λ h. FirstBroken.later {kept = q} h (first_broken rest o r (simp h at e)))
    (λ h. let same : q ≡ r = cc in subst (λ (x : Refusal). FirstBroken r (x ∷ rest)) (sym same) (FirstBroken.here (rw same at h)))

-- ---- a day
lacked : (missing : Missing) → listed day_numbers (missing_number_of missing) ≡ true
unfolding listed
lacked Transit = refl
lacked Sunrise = refl
lacked Sunset = refl

-- a row is refused by the first of its days that lacks a time, and only by it
module _ (h : RowHours) (date : Date) (season : Season) (p : Parameters) (r : Refusal) where
  by_days : (a b c : Result SolarTime Missing) → started_in date (since_from (suns_of (numbered_of a) (numbered_of b) (numbered_of c)) h date season p) ≡ Err r
      → (listed day_numbers r.number ≡ true) × (r.place ≤ 2) × FirstLacking r.number r.place (a ∷ b ∷ c ∷ [])
  unfolding started_in since_from numbered_of suns_of
  by_days (Err m) b c e =
      let same : refusal (missing_number_of m) 0 ≡ r = cc in rw (← same) (lacked m, lit≤ tt, FirstLacking.here refl)
  by_days (Ok t) (Err m) c e =
      let same : refusal (missing_number_of m) 1 ≡ r = cc in
      rw (← same) (lacked m, lit≤ tt, FirstLacking.later (FirstLacking.here refl))
  by_days (Ok t) (Ok u) (Err m) e =
      let same : refusal (missing_number_of m) 2 ≡ r = cc in
      rw (← same) (lacked m, lit≤ tt, FirstLacking.later (FirstLacking.later (FirstLacking.here refl)))
  by_days (Ok t) (Ok u) (Ok v) e = let w : ◌≡◌ {A = ℕ} 0 1 = cc in absurd (omega arith)

  by-lacking : {number place : ℕ} {a b c : Result SolarTime Missing} → FirstLacking number place (a ∷ b ∷ c ∷ [])
      → started_in date (since_from (suns_of (numbered_of a) (numbered_of b) (numbered_of c)) h date season p) ≡ Err (refusal number place)
  unfolding started_in since_from numbered_of suns_of
  by-lacking (FirstLacking.here e) = ap (λ (n : ℕ). Err (refusal n 0)) e
  by-lacking (FirstLacking.later (FirstLacking.here e)) = ap (λ (n : ℕ). Err (refusal n 1)) e
  by-lacking (FirstLacking.later (FirstLacking.later (FirstLacking.here e))) = ap (λ (n : ℕ). Err (refusal n 2)) e
  by-lacking (FirstLacking.later (FirstLacking.later (FirstLacking.later x))) = elim x [ ]

module _ (o : Order) (date : Date) (r : Refusal) where
  abbrev numbers : RowNumbers
  numbers = numbers_of date o.setting.coordinates o.setting.parameters

  pub refused_day : work_date_of o date ≡ Err r → RefusedDay o date r
  unfolding started_in since_of since_from hours_of
  refused_day e =
      let rule = o.setting.rules.midnight in
      let f = by_days (hours_of rule numbers) date (season_of o.setting) o.setting.parameters r
      (solar_time_of rule numbers.today) (solar_time_of rule numbers.tomorrow) (solar_time_of rule numbers.after) e in
      record { number = f.0; place = f.1; lacking = f.2 }

  lacking-day : FirstLacking r.number r.place (three_days o date) → work_date_of o date ≡ Err r
  unfolding started_in since_of since_from hours_of
  lacking-day l = by-lacking (hours_of o.setting.rules.midnight numbers) date (season_of o.setting) o.setting.parameters r l

-- working a row that the order has is working its date
row_of : (s : List ℕ) (o : Order) (row : ℕ) → reading_of s ≡ Ok o → row < o.rows
    → work_day_of s row ≡ work_date_of o (row_date_of o.date row)
unfolding work_day_of work_reading_of work_row_of
row_of s o row e h = simp (e, lt-ltb row o.rows h)

-- ---- the sheet
lines_each : (o : Order) (n : ℕ) → n ≤ o.rows → lines_text o n ≡ each_of (row_line o) n
unfolding lines_text each_of work_row_of
lines_each o zero h = refl
lines_each o (suc n) h = rw (lines_each o n (omega arith), lt-ltb n o.rows (omega arith))

sheet_each : (s : List ℕ) (o : Order) → reading_of s ≡ Ok o → sheet_text s ≡ head_text o.ramadan (town_of s)
    ++ each_of (row_line o) o.rows
unfolding report_in accepted_text
sheet_each s o e = rw (e, lines_each o o.rows (omega arith))

-- ---- the calls that write
refused_lent : {number : ℕ} {text buffer : List ℕ} → eqb number 0 ≡ false → Lent number text buffer buffer
refused_lent h = record { refused = λ e. refl; written = λ e. absurd (true≢false (sym e ∙ h)) }

written_lent : {text buffer : List ℕ} → length text ≤ length buffer → Lent 0 text buffer (front_of text buffer)
written_lent h = record { refused = λ e. absurd (true≢false e); written = λ e. (h, refl) }

-- a number of an order, of a row or of a day is not 0
pub order_number : (s : List ℕ) (r : Refusal) → reading_of s ≡ Err r → eqb r.number 0 ≡ false
order_number s r e = let h = (refused_by s r e).some in ne_eqb r.number 0 (omega arith)

pub day_number : (n : ℕ) → listed day_numbers n ≡ true → eqb n 0 ≡ false
unfolding listed
day_number zero e = absurd (true≢false (sym e))
day_number (suc n) e = ne_eqb (suc n) 0 (omega arith)

module _ (o : Order) (row : ℕ) (buffer : List ℕ) where
  by-worked : (w : Result PrayerTimes Refusal) → work_date_of o (row_date_of o.date row) ≡ w → row_room o.ramadan ≤ length buffer
      → Lent (worked_call_of o.ramadan (row_date_of o.date row) w buffer).answer.number
      (line_text o.ramadan (row_date_of o.date row) w) buffer (worked_call_of o.ramadan (row_date_of o.date row) w buffer).buffer
  unfolding worked_call_of line_text
  by-worked (Ok t) e h = written_lent (let l = columns_length o.ramadan (row_date_of o.date row) t in omega arith)
  by-worked (Err r) e h = refused_lent (day_number r.number (refused_day o (row_date_of o.date row) r e).number)

  read-lent : Lent (read_call_of o row buffer).answer.number (row_line o row) buffer (read_call_of o row buffer).buffer
  unfolding read_call_of work_row_of worked_call_of
  read-lent =
      cases (ltb (length buffer) (row_room o.ramadan)) (λ short. rw short (refused_lent refl))
      (λ there. rw there
      (cases (ltb row o.rows)
      (λ h. rw h (by-worked (work_date_of o (row_date_of o.date row)) refl (ltb-false (length buffer) (row_room o.ramadan) there)))
      (λ h. rw h (refused_lent refl))))

row_lent : (s : List ℕ) (row : ℕ) (buffer : List ℕ)
    → Lent (row_call_of s row buffer).answer.number (written_for (λ o. row_line o row) (reading_of s)) buffer (row_call_of s row buffer).buffer
row_lent s row buffer =
    cases (ltb (length buffer) full_row)
    (λ h. let short = row-short s buffer row (ltb-true (length buffer) full_row h) in rw (← short.0, ← short.1) (refused_lent refl))
    (λ h. by-reading (reading_of s) refl (ltb-false (length buffer) full_row h))
  where
    by-reading : (x : Result Order Refusal) → reading_of s ≡ x → full_row ≤ length buffer
        → Lent (row_call_of s row buffer).answer.number (written_for (λ o. row_line o row) x) buffer (row_call_of s row buffer).buffer
    by-reading (Ok o) e h = let read = row_read s buffer row h o e in rw (← read.0, ← read.1) (read-lent o row buffer)
    by-reading (Err r) e h = let no = row-refused s buffer row h r e in
        rw (← no.0, ← no.1) (refused_lent (order_number s r e))

-- ---- rows of cells: the rows that are asked for have room
module _ (asked : Order → Rows) (s buffer : List ℕ)
    (fit : (o : Order) → row_length ≤ length buffer → length (cells_of (asked o)) ≤ length buffer) where
  rows-lent : (rows : Rows) → length (cells_of rows) ≤ length buffer
      → Lent (put_call_of rows buffer).answer.refusal.number (cells_of rows) buffer (put_call_of rows buffer).buffer
  unfolding put_call_of
  rows-lent [] h = refused_lent refl
  rows-lent (row ∷ rows) h = written_lent h

  cells-lent : Lent (asked_call_of asked row_length s buffer).answer.refusal.number
      (written_for (λ o. cells_of (asked o)) (reading_of s)) buffer
      (asked_call_of asked row_length s buffer).buffer
  unfolding asked_call_of
  cells-lent =
      cases (ltb (length buffer) row_length) (λ short. rw short (refused_lent refl))
      (λ there. rw there (by-reading (ltb-false (length buffer) row_length there) (reading_of s) refl))
    where
      by-reading : row_length ≤ length buffer → (x : Result Order Refusal) → reading_of s ≡ x
          → Lent (pages.call_in asked x buffer).answer.refusal.number (written_for (λ o. cells_of (asked o)) x) buffer
          (pages.call_in asked x buffer).buffer
      by-reading h (Ok o) e = rows-lent (asked o) (fit o h)
      by-reading h (Err r) e = refused_lent (order_number s r e)

one_fits : (row : ℕ) (buffer : List ℕ) (o : Order) → row_length ≤ length buffer → length (cells_of (one_row row o)) ≤ length buffer
unfolding one_row cells_of rows_from
one_fits row buffer o h =
    arms (λ (rows : Rows). length (cells_of rows) ≤ length buffer) (ltb row o.rows) (λ t. let l = cells-length o row 1 in omega arith)
    (λ t. omega arith)

piece_fits : (page first : ℕ) (scratch : List ℕ) (o : Order) → row_length ≤ length scratch
    → length (cells_of (piece_in page first scratch o)) ≤ length scratch
unfolding page_of cells_of
piece_fits zero first scratch o h =
    let d : ◌≡◌ {A = Rows} (drop first []) [] = drop_of_length-le [] {i = first} (omega arith) in
    let e : piece_of [] first (length scratch / row_length) ≡ [] = ap (take (length scratch / row_length)) d
    ∙ take-nil {A = List ℕ} (length scratch / row_length) in
    rw e (omega arith)
piece_fits (suc p) first scratch o h =
    rw (drop-rows, take-rows, drop-rows, take-rows, cells-length) (omega arith)

-- a row that is asked for and that there is, is not refused
module _ (asked : Order → Rows) (s buffer : List ℕ) (o : Order) (e : reading_of s ≡ Ok o) (h : row_length ≤ length buffer) where
  put-shown : (rows : Rows) → 1 ≤ length rows → (put_call_of rows buffer).answer.refusal ≡ no_refusal
  unfolding put_call_of
  put-shown [] l = absurd (omega arith)
  put-shown (row ∷ rows) l = refl

  asked-shown : 1 ≤ length (asked o) → (asked_call_of asked row_length s buffer).answer.refusal ≡ no_refusal
  unfolding asked_call_of
  asked-shown l = rw (le-ltb (length buffer) row_length h, e) (put-shown (asked o) l)

one_asked : (row : ℕ) (o : Order) → row < o.rows → 1 ≤ length (one_row row o)
unfolding one_row
one_asked row o h = rw (lt-ltb row o.rows h) (lit≤ tt)

piece_asked : (page first : ℕ) (scratch : List ℕ) (o : Order) → first < length (page_of o page) → row_length ≤ length scratch
    → 1 ≤ length (piece_in page first scratch o)
piece_asked page first scratch o h l =
    let rows = drop first (page_of o page) in
    let t = length-take (length scratch / row_length) rows in
    let d = length-drop first (page_of o page) in
    omega arith

-- ---- a sentence
sentence_lent : (n p : ℕ) (buffer : List ℕ)
    → Lent (sentence_call_of n p buffer).answer.number (sentence_of n p) buffer (sentence_call_of n p buffer).buffer
unfolding sentence_call_of
sentence_lent n p buffer =
    cases (known n)
    (λ k. rw k (cases (leb (length (sentence_of n p)) (length buffer))
    (λ room. rw room (written_lent (leb-true (length (sentence_of n p)) (length buffer) room))) (λ room. rw room (refused_lent refl))))
    (λ k. rw k (refused_lent refl))

-- ---- a row and the others
-- what the n rows from row k on give
from_of : (ℕ → List ℕ) → ℕ → ℕ → List ℕ
from_of of k zero = []
from_of of k (suc n) = from_of of k n ++ of (k + n)

around : (of : ℕ → List ℕ) (one n : ℕ) → each_of of (suc one + n) ≡ each_of of one ++ of one ++ from_of of (suc one) n
unfolding each_of from_of
around of one zero = let e : suc one + 0 ≡ suc one = omega arith in rw e (sym (append-nil (each_of of one ++ of one)))
around of one (suc n) =
    let e : suc one + suc n ≡ suc (suc one + n) = omega arith in
    rw (e, around of one n) (append_assoc (each_of of one ++ of one) (from_of of (suc one) n) (of (suc one + n)))

module _ (of other : ℕ → List ℕ) (one : ℕ) (alike : (row : ℕ) → eqb row one ≡ false → other row ≡ of row) where
  before_same : (n : ℕ) → n ≤ one → each_of other n ≡ each_of of n
  unfolding each_of
  before_same zero h = refl
  before_same (suc n) h = rw (before_same n (omega arith), alike n (ne_eqb n one (omega arith)))

  after_same : (n : ℕ) → from_of other (suc one) n ≡ from_of of (suc one) n
  unfolding from_of
  after_same zero = refl
  after_same (suc n) = rw (after_same n, alike (suc one + n) (ne_eqb (suc one + n) one (omega arith)))

others_stay : (o : Order) (row : ℕ) → row < o.rows → OthersStay o row
others_stay o row h =
    let left = o.rows - suc row in
    let n : o.rows ≡ suc row + left = omega arith in
    record {
      before = each_of (row_line o) row;
      after = from_of (row_line o) (suc row) left;
      now = ap (each_of (row_line o)) n ∙ around (row_line o) row left;
      instead = λ w.
          let alike : (k : ℕ) → eqb k row ≡ false → instead_of o row w k ≡ row_line o k = λ k e. rw e in
          let here : instead_of o row w row ≡ line_text o.ramadan (row_date_of o.date row) w = rw (eq-eqb row row refl) in
          ap (each_of (instead_of o row w)) n
          ∙ around (instead_of o row w) row left
          ∙ rw (
            before_same (row_line o) (instead_of o row w) row alike row (omega arith),
            here,
            after_same (row_line o) (instead_of o row w) row alike left,
          );
    }

pub nothing_breaks_a_run : NothingBreaksARun
unfolding reading_of
nothing_breaks_a_run s =
    record {
      order = λ r e. is_listed r.number (refused_by s r e);
      first = λ r e. first_broken (check_of s ∷ checks_of (values_of s)) (order_of (values_of s)) r e;
      day = λ o row r e h w. refused_day o (row_date_of o.date row) r (sym (row_of s o row e h) ∙ w);
      lacking = λ o row r e h l. row_of s o row e h ∙ lacking-day o (row_date_of o.date row) r l;
      shown = λ o row buffer e h l. asked-shown (one_row row) s buffer o e l (one_asked row o h);
      page_shown = λ o page first scratch e h l.
          asked-shown (piece_in page first scratch) s scratch o e l (piece_asked page first scratch o h l);
      sheet = sheet_each s;
      only = λ o row e h. others_stay o row h;
      row = row_lent s;
      cells = λ row buffer. cells-lent (one_row row) s buffer (one_fits row buffer);
      page = λ page first scratch. cells-lent (piece_in page first scratch) s scratch (piece_fits page first scratch);
      sentence = sentence_lent;
    }
