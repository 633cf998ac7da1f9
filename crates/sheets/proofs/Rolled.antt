-- The suns roll from row to row, and the rows' lines follow one another. Assumes nothing.
use Rattle.std.specs.Prelude.{Result}
use Rattle.schedule.specs.declared.prayer_times.PrayerTimes.{PrayerTimes}
use Rattle.refusals.specs.declared.Refusal.{Refusal}
use Rattle.prelude.proofs.Logic.{◌≡◌, sym, ap, ◌∙◌, List, ℕ, ◌+◌, ◌-◌, ◌*◌, ◌≤◌, ◌<◌, mul-le-mul_right, arith, length}
use Rattle.calendar.specs.Answers.{row_date_of}
use Rattle.days.proofs.RowStates.{state_of, worked_by_suns, state-worked}
use Rattle.order.specs.Accepted.{Accepted}
use Rattle.order.specs.declared.reading.Order.{Order}
use Rattle.lines.proofs.SinceLaws.{line_since_lem}
use Rattle.lines.specs.Lines.{row_room, line_text}
use Rattle.lines.specs.Since.{line_since}
use Rattle.schedule.specs.RowSuns.{row_suns_of, row_suns_since_of}
use Rattle.schedule.specs.Each.{NearIn}
use Rattle.schedule.specs.Times.{started_in}
use Rattle.schedule.specs.declared.rolling.RowSuns.{RowSuns}
use Rattle.text.specs.Text.{put_of}
use Rattle.sheets.specs.Rows.{lines_text}
use Rattle.sheets.proofs.Lengths.{line_of, lines_length, line_made}

-- the line that a row's suns give
abbrev pub made_line : Order → RowSuns → List ℕ
made_line o suns = line_text o.ramadan suns.date (worked_by_suns o suns)

state_line : (o : Order) → Accepted o → (k : ℕ) → k < o.rows → made_line o (state_of o k) ≡ line_of o k
unfolding row_suns_of
state_line o a k h = ap (line_text o.ramadan (row_date_of o.date k)) (state-worked o a k h)

-- and from its times since 0h
pub since_line : (o : Order) → Accepted o → (suns : RowSuns) (k : ℕ) → k < o.rows → suns ≡ state_of o k
    → (w : Result PrayerTimes Refusal) → w ≡ row_suns_since_of o.setting suns → NearIn w
    → line_since o.ramadan suns.date w ≡ made_line o suns
unfolding row_suns_of
since_line o a suns k h s w e near =
    let few = a.imsak in
    let to = (a.row k h).to in
    let year : suns.date.year ≡ (row_date_of o.date k).year = ap (λ (r : RowSuns). r.date.year) s in
    sym (line_since_lem o.ramadan suns.date w (omega arith) (omega arith) near)
    ∙ ap (λ (x : Result PrayerTimes Refusal). line_text o.ramadan suns.date (started_in suns.date x)) e

add_one_le : {k n : ℕ} → k < n → k + 1 ≤ n
add_one_le h = omega arith

-- Before a row: `suns` are those of the row before it, or at first those of row 0, and the lines of the earlier rows are in the buffer.
pub record Run (o : Order) (buffer : List ℕ) (at : ℕ) (now : List ℕ) (suns : RowSuns) (row end : ℕ) : Type 0 where
  pub state : suns ≡ state_of o (row - 1)
  pub text : now ≡ put_of buffer at (lines_text o row)
  pub place : end ≡ at + length (lines_text o row)
  pub same : length now ≡ length buffer

-- after a row: the lines up to it are in the buffer, and `end` is where they end
abbrev pub Behind : Order → List ℕ → ℕ → List ℕ → ℕ → ℕ → Type 0
Behind o buffer at now row end = (now ≡ put_of buffer at (lines_text o row)) × (end ≡ at + length (lines_text o row)) × (end ≤ length buffer)

module _ (o : Order) (a : Accepted o) (buffer : List ℕ) (at : ℕ) (room : at + o.rows * row_room o.ramadan ≤ length buffer) where
  pub run-line : (now : List ℕ) (suns before : RowSuns) (row end : ℕ) → Run o buffer at now before row end → row < o.rows → suns ≡ state_of o row
      → (line after : List ℕ) (n : ℕ) → line ≡ made_line o suns → n ≡ length line → after ≡ put_of now end line
      → Behind o buffer at after (row + 1) (end + n)
  run-line now suns before row end s w state line after n l m p =
      let most = mul-le-mul_right (row_room o.ramadan) (add_one_le w) in
      let long = lines_length o (row + 1) in
      let made = line_made o row buffer now after line at end n (omega arith) s.text s.place
      (l ∙ ap (made_line o) state ∙ state_line o a row w) m p in
      (made.0, made.1, omega (arith, made.1))
