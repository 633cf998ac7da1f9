-- The suns roll from row to row, and the rows' cells follow one another. Assumes nothing.
use Rattle.std.specs.Prelude.{Result}
use Rattle.schedule.specs.declared.prayer_times.PrayerTimes.{PrayerTimes}
use Rattle.refusals.specs.declared.Refusal.{Refusal}
use Rattle.prelude.proofs.Logic.{◌≡◌, refl, sym, ap, ◌∙◌, List, [], ◌∷◌, ◌++◌, append-nil, ℕ, ◌+◌, ◌-◌, ◌*◌, ◌≤◌, ◌<◌, arith, length, w32}
use Rattle.prelude.proofs.Logic.{SFits}
use Rattle.braille.proofs.{Bits.dots_bound, Clock.cells-since, Parts.row_length_lem}
use Rattle.braille.specs.{Braille.dots_of, Cells.row_length, Cells.row_cells}
use Rattle.calendar.specs.Answers.{row_date_of}
use Rattle.days.proofs.RowStates.{state_of, state-worked, rolled}
use Rattle.days.specs.Calls.{work_row_of}
use Rattle.integers.proofs.Ranges.{fits}
use Rattle.order.specs.{Accepted.Accepted, declared.reading.Order.Order}
use Rattle.schedule.specs.{RowSuns.row_suns_of, RowSuns.next_row_suns_of, RowSuns.row_suns_since_of, declared.rolling.RowSuns.RowSuns}
use Rattle.text.specs.Text.{put_of, front_of}
use Rattle.text.proofs.TextLaws.{put_next}
use Rattle.pages.specs.Pages.{row_of, rows_from, cells_of}
use Rattle.pages.proofs.RowsLaws.{dots_append, cells_append, cells-length, rows_next}

-- the clock of an order that is read fits its i32
pub clock_fits_lem : (o : Order) → Accepted o → SFits w32 o.clock
clock_fits_lem o a = let n = a.clock in fits w32 o.clock (omega (arith, n.from, n.to)) (omega (arith, n.from, n.to))

-- the cells that a row's suns give, from times since 0h of its date
abbrev pub made_row : Order → RowSuns → List ℕ
made_row o suns = row_cells suns.date (row_suns_since_of o.setting suns) o.clock

state_row : (o : Order) → Accepted o → (k : ℕ) → k < o.rows → made_row o (state_of o k) ≡ row_of o k
unfolding row_suns_of
state_row o a k h =
    let date = row_date_of o.date k in
    sym (cells-since date o.clock (row_suns_since_of o.setting (state_of o k)))
    ∙ ap (λ (w : Result PrayerTimes Refusal). row_cells date w o.clock) (state-worked o a k h)

-- the cells from row `row` to before `next`
abbrev pub cells_before : Order → ℕ → ℕ → List ℕ
cells_before o row next = cells_of (rows_from o row (next - row))

-- Before a row: `suns` are those of the row before it, or at first those of the first row, the cells of the earlier rows are in the buffer, and `dots` are their dots.
pub record Run (o : Order) (row end : ℕ) (buffer now : List ℕ) (suns : RowSuns) (next dots : ℕ) : Type 0 where
  pub state : suns ≡ state_of o (row + (next - row - 1))
  pub cells : row_length * (end - row) ≤ length buffer → now ≡ front_of (cells_before o row next) buffer
  pub punched : dots ≡ dots_of (cells_before o row next)
  pub same : length now ≡ length buffer

-- after a row: the cells up to it are in the buffer, `dots` are their dots, and these are few enough for a u32
abbrev pub Behind : Order → ℕ → ℕ → List ℕ → ℕ → List ℕ → ℕ → Type 0
Behind o row end buffer next now dots =
    (row_length * (end - row) ≤ length buffer → now ≡ front_of (cells_before o row next) buffer) × (dots ≡ dots_of (cells_before o row next))
    × (dots ≤ 6 * (row_length * (next - row)))

-- the suns of a row, from those that are kept
pub rolled_suns : (o : Order) → Accepted o → (row next : ℕ) (before : RowSuns) → next < o.rows → before ≡ state_of o (row + (next - row - 1)) → row < next
    → next_row_suns_of o.setting before ≡ state_of o next
rolled_suns o a row next before h s more =
    let e : row + (next - row - 1) ≡ next - 1 = omega arith in
    rolled o a next h before (s ∙ ap (state_of o) e) (omega arith)

pub first_suns : (o : Order) (row next : ℕ) (before : RowSuns) → before ≡ state_of o (row + (next - row - 1)) → row ≤ next → next ≤ row
    → before ≡ state_of o next
first_suns o row next before s from to = let e : row + (next - row - 1) ≡ next = omega arith in s ∙ ap (state_of o) e

module _ (o : Order) (row : ℕ) where
  -- no row yet
  pub done_none : (buffer : List ℕ) → (buffer ≡ front_of (cells_before o row row) buffer) × (0 ≡ dots_of (cells_before o row row))
  unfolding cells_of rows_from dots_of
  done_none buffer =
      let e : row - row ≡ 0 = omega arith in
      (rw e refl, rw e refl)

  done_next : (next : ℕ) → row ≤ next → cells_before o row next ++ row_of o next ≡ cells_before o row (next + 1)
  unfolding cells_of
  done_next next h =
      let e : next - row + 1 ≡ next + 1 - row = omega arith in
      let f : row + (next - row) ≡ next = omega arith in
      ap (λ (l : List ℕ). cells_before o row next ++ l) (sym (append-nil (row_of o next)))
      ∙ ap (λ (j : ℕ). cells_before o row next ++ cells_of (row_of o j ∷ [])) (sym f)
      ∙ sym (cells_append (rows_from o row (next - row)) (row_of o (row + (next - row)) ∷ []))
      ∙ ap cells_of (sym (rows_next o row (next - row)))
      ∙ ap (λ (j : ℕ). cells_of (rows_from o row j)) e

  -- the dots of an order's rows fit
  done-dots : (next : ℕ) → dots_of (cells_before o row next) ≤ 6 * (row_length * (next - row))
  done-dots next =
      let b = dots_bound (cells_before o row next) in
      let l = cells-length o row (next - row) in
      omega arith

  module _ (end : ℕ) (a : Accepted o) (most : end ≤ o.rows) (buffer : List ℕ) where
    pub run_row : (now : List ℕ) (suns before : RowSuns) (next dots : ℕ) → Run o row end buffer now before next dots → row ≤ next → next < end
        → suns ≡ state_of o next → (cells after : List ℕ) (n at : ℕ) → cells ≡ made_row o suns → n ≡ dots_of cells → at ≡ row_length * (next - row)
        → after ≡ put_of now at cells
        → Behind o row end buffer (next + 1) after (dots + n)
    run_row now suns before next dots s from w state cells after n at m q t p =
        let l = cells-length o row (next - row) in
        let e : cells ≡ row_of o next = m ∙ ap (made_row o) state ∙ state_row o a next (omega arith) in
        let r = row_length_lem (row_date_of o.date next) (work_row_of o next) o.clock in
        let j = done_next next from in
        let d = dots_append (cells_before o row next) (row_of o next) in
        let f : dots_of (cells_before o row next ++ row_of o next) ≡ dots_of (cells_before o row (next + 1)) = ap dots_of j in
        let g : n ≡ dots_of (row_of o next) = q ∙ ap dots_of e in
        let u = s.punched in
        let most_dots = done-dots (next + 1) in (
          λ room. put_next buffer (cells_before o row next) (row_of o next) now after at (s.cells room) (t ∙ sym l) (p ∙ ap (put_of now at) e)
              (omega arith)
              ∙ ap (λ (x : List ℕ). front_of x buffer) j,
          omega arith,
          omega arith,
        )
