-- The sheet's text, part by part, and the room that it takes. Assumes nothing.
use Rattle.prelude.proofs.Logic.{◌≡◌, refl, sym, ap, ◌∙◌, List, [], ◌++◌, ℕ, zero, suc, ◌+◌, ◌*◌, ◌≤◌, add-one, arith, lit≤, length}
use Rattle.prelude.proofs.Logic.{length-append, arms, cases}
use Rattle.calendar.specs.Answers.{row_date_of}
use Rattle.days.specs.Calls.{work_row_of}
use Rattle.hijri.specs.declared.ramadan.Ramadan.{Ramadan}
use Rattle.lines.specs.Lines.{full_row, row_room, line_text}
use Rattle.lines.proofs.LinesLaws.{line_length_lem}
use Rattle.order.specs.Accepted.{Accepted}
use Rattle.order.specs.Ranges.{most_rows}
use Rattle.order.specs.declared.reading.Order.{Order}
use Rattle.text.specs.Text.{put_of, front_of}
use Rattle.text.proofs.TextLaws.{put_behind, put_next, put_nothing}
use Rattle.sheets.specs.Rows.{header_text, head_text, lines_text, accepted_text}

-- the header has 64 bytes, or 70 with imsak. With all rows of the order it is no longer than the longest sheet
pub room_enough : (o : Order) → Accepted o → length (header_text o.ramadan) + o.rows * row_room o.ramadan ≤ 64 + full_row * most_rows
unfolding header_text row_room
room_enough o a =
    cases o.ramadan.set (λ e. let n = (a.ramadan e).rows in simp e (omega arith)) (λ e. let n = a.rows.1 in simp e (omega arith))

pub header_short : (ramadan : Ramadan) → length (header_text ramadan) ≤ 70
unfolding header_text
header_short ramadan = arms (λ (t : List ℕ). length t ≤ 70) ramadan.set (λ e. lit≤ tt) (λ e. lit≤ tt)

pub head_length : (ramadan : Ramadan) (town : List ℕ) → length (head_text ramadan town) ≡ length town + length (header_text ramadan)
unfolding head_text
head_length ramadan town = length-append town (header_text ramadan)

pub head_made : (ramadan : Ramadan) (town buffer one two : List ℕ) → length town + length (header_text ramadan) ≤ length buffer
    → one ≡ put_of buffer 0 town
    → two ≡ put_of one (length town) (header_text ramadan) → two ≡ front_of (head_text ramadan town) buffer
unfolding head_text
head_made ramadan town buffer one two room a b =
    put_next buffer town (header_text ramadan) one two (length town)
    (put_next buffer [] town buffer one 0 refl refl a (omega arith)) refl b room

abbrev pub line_of : Order → ℕ → List ℕ
line_of o k = line_text o.ramadan (row_date_of o.date k) (work_row_of o k)

pub lines_next : (o : Order) (k : ℕ) → lines_text o (k + 1) ≡ lines_text o k ++ line_of o k
unfolding lines_text
lines_next o k = rw (add-one k)

pub lines_length : (o : Order) (k : ℕ) → length (lines_text o k) ≤ k * row_room o.ramadan
unfolding lines_text
lines_length o zero = omega arith
lines_length o (suc k) =
    let i = lines_length o k in
    let n = line_length_lem o.ramadan (row_date_of o.date k) (work_row_of o k) in
    let a = length-append (lines_text o k) (line_of o k) in
    omega arith

-- no line yet
pub lines_none : (o : Order) (buffer : List ℕ) (at : ℕ) → at ≤ length buffer
    → (buffer ≡ put_of buffer at (lines_text o 0)) × (at ≡ at + length (lines_text o 0))
unfolding lines_text
lines_none o buffer at room = (sym (put_nothing buffer at room), omega arith)

-- one line more
pub line_made : (o : Order) (k : ℕ) (buffer before after line : List ℕ) (at end n : ℕ) → at + (k + 1) * row_room o.ramadan ≤ length buffer
    → before ≡ put_of buffer at (lines_text o k) → end ≡ at + length (lines_text o k)
    → line ≡ line_of o k → n ≡ length line → after ≡ put_of before end line
    → (after ≡ put_of buffer at (lines_text o (k + 1))) × (end + n ≡ at + length (lines_text o (k + 1)))
line_made o k buffer before after line at end n room b e l m p =
    let i = lines_length o k in
    let w = line_length_lem o.ramadan (row_date_of o.date k) (work_row_of o k) in
    let a = length-append (lines_text o k) (line_of o k) in
    let x = lines_next o k in
    let f : n ≡ length (line_of o k) = m ∙ ap length l in
    let g : length (lines_text o (k + 1)) ≡ length (lines_text o k ++ line_of o k) = ap length x in (
      p
          ∙ ap (λ (t : List ℕ). put_of t end line) b
          ∙ ap (λ (j : ℕ). put_of (put_of buffer at (lines_text o k)) j line) e
          ∙ ap (put_of (put_of buffer at (lines_text o k)) (at + length (lines_text o k))) l
          ∙ put_behind buffer (lines_text o k) (line_of o k) at (omega arith)
          ∙ ap (put_of buffer at) (sym x),
      omega arith,
    )

pub sheet_made : (town buffer head after : List ℕ) (o : Order) (n r : ℕ)
    → length town + (length (header_text o.ramadan) + o.rows * row_room o.ramadan) ≤ length buffer
    → n ≡ length (head_text o.ramadan town) → head ≡ front_of (head_text o.ramadan town) buffer
    → r ≡ n + length (lines_text o o.rows) → after ≡ put_of head n (lines_text o o.rows)
    → (r ≡ length (accepted_text town o)) × (after ≡ front_of (accepted_text town o) buffer)
unfolding accepted_text
sheet_made town buffer head after o n r room e h m p =
    let l = lines_length o o.rows in
    let t = head_length o.ramadan town in
    let a = length-append (head_text o.ramadan town) (lines_text o o.rows) in
    (omega arith, put_next buffer (head_text o.ramadan town) (lines_text o o.rows) head after n h e p (omega arith))
