-- What a call that asks for rows returns, case by case. Assumes nothing.
use Rattle.std.specs.Prelude.{Err, Ok}
use Rattle.prelude.proofs.Logic.{◌≡◌, refl, sym, ap, ◌∙◌, List, [], ◌∷◌, ℕ, ◌+◌, ◌-◌, ◌≤◌, ◌<◌, arith, length, lt-ltb, le-ltb}
use Rattle.braille.specs.Braille.{dots_of}
use Rattle.days.specs.Calls.{lacks_row}
use Rattle.order.specs.declared.reading.{Order.Order}
use Rattle.order.specs.Reading.{reading_of}
use Rattle.refusals.specs.{Refusals.refusal, Refusals.no_refusal, declared.Refusal.Refusal}
use Rattle.text.specs.Text.{front_of}
use Rattle.pages.specs.Answers.{CellsCall, punched_of, refused_of, refusing, put_call_of, asked_call_of, one_row}
use Rattle.pages.specs.Pages.{Rows, rows_from, cells_of}
use Rattle.pages.specs.declared.answer.Punched.{Punched}
use Rattle.pages.proofs.RowsLaws.{rows-length}

-- equal calls return the same, and leave the same buffer
pub same_answer : {c d : CellsCall} → c ≡ d → c.answer ≡ d.answer
same_answer e = ap (λ (c : CellsCall). c.answer) e

pub same_buffer : {c d : CellsCall} → c ≡ d → c.buffer ≡ d.buffer
same_buffer e = ap (λ (c : CellsCall). c.buffer) e

-- a call that asks for some rows, and one that asks for none
pub rows_some : (rows : Rows) (buffer : List ℕ) → 1 ≤ length rows
    → put_call_of rows buffer ≡ record { answer = punched_of rows; buffer = front_of (cells_of rows) buffer }
unfolding put_call_of
rows_some [] buffer h = absurd (omega arith)
rows_some (row ∷ rows) buffer h = refl

pub rows_none : (rows : Rows) (buffer : List ℕ) → length rows ≡ 0 → put_call_of rows buffer ≡ refusing lacks_row buffer
unfolding put_call_of
rows_none [] buffer e = refl
rows_none (row ∷ rows) buffer e = absurd (omega arith)

-- a call that asks for no row is refused: what it returns and leaves
pub rows_refused : (rows : Rows) (buffer : List ℕ) (result : Punched) (r : Refusal) → length rows ≡ 0 → r ≡ lacks_row → result ≡ refused_of r
    → (result ≡ (put_call_of rows buffer).answer) × (buffer ≡ (put_call_of rows buffer).buffer)
rows_refused rows buffer result r none is e = rw (rows_none rows buffer none) (e ∙ ap refused_of is, refl)

-- if the rows that are written are those that were asked for, the call returns and leaves what it must
pub rows_answered : (rows asked : Rows) (result : Punched) (buffer after : List ℕ) → 1 ≤ length asked → rows ≡ asked
    → result ≡ punched_of rows
    → after ≡ front_of (cells_of rows) buffer → (result ≡ (put_call_of asked buffer).answer) × (after ≡ (put_call_of asked buffer).buffer)
rows_answered rows asked result buffer after h e r f =
    let some = sym (rows_some asked buffer h) in (
      r ∙ ap punched_of e ∙ same_answer some,
      f ∙ ap (λ (l : Rows). front_of (cells_of l) buffer) e ∙ same_buffer some,
    )

-- the same rows, by their first row and their number
pub rows_counted : (o : Order) (row count dots : ℕ) (none : Refusal) (buffer after : List ℕ) → none ≡ no_refusal
    → dots ≡ dots_of (cells_of (rows_from o row (row + count - row))) → after ≡ front_of (cells_of (rows_from o row (row + count - row))) buffer
    → (record { refusal = none; rows = count; dots = dots } ≡ punched_of (rows_from o row count))
    × (after ≡ front_of (cells_of (rows_from o row count)) buffer)
rows_counted o row count dots none buffer after n d f =
    let e : row + count - row ≡ count = omega arith in
    let l = rows-length o row count in
    (simp (n, l, rw e at d), rw e at f)

pub row_there : (o : Order) (row : ℕ) → row < o.rows → rows_from o row 1 ≡ one_row row o
unfolding one_row rows_from
row_there o row h = simp (lt-ltb row o.rows h)

pub row_one : (o : Order) (row : ℕ) → row < o.rows → 1 ≤ length (one_row row o)
unfolding one_row
row_one o row h = rw (lt-ltb row o.rows h) (omega arith)

pub row_lacking : (o : Order) (row : ℕ) → o.rows ≤ row → length (one_row row o) ≡ 0
unfolding one_row
row_lacking o row h = simp (le-ltb row o.rows h)

-- a call on an order's bytes, and what it returns and leaves: the buffer is too short, the order is read, the order is refused
module _ (asked : Order → Rows) (least : ℕ) (s buffer : List ℕ) where
  abbrev Called : Punched → List ℕ → Type 0
  Called result after = (result ≡ (asked_call_of asked least s buffer).answer) × (after ≡ (asked_call_of asked least s buffer).buffer)

  pub called-short : length buffer < least → (result : Punched) (r : Refusal) → r ≡ refusal 9 0 → result ≡ refused_of r
      → Called result buffer
  unfolding asked_call_of
  called-short h result r is e = rw (lt-ltb (length buffer) least h) (e ∙ ap refused_of is, refl)

  module _ (h : least ≤ length buffer) where
    pub order-read : (o : Order) → reading_of s ≡ Ok o → asked_call_of asked least s buffer ≡ put_call_of (asked o) buffer
    unfolding asked_call_of
    order-read o e = simp (le-ltb (length buffer) least h, e)

    pub order-refused : (r : Refusal) → reading_of s ≡ Err r → asked_call_of asked least s buffer ≡ refusing r buffer
    unfolding asked_call_of
    order-refused r e = simp (le-ltb (length buffer) least h, e)

    pub called-read : (o : Order) → reading_of s ≡ Ok o → (result : Punched) (after : List ℕ)
        → (result ≡ (put_call_of (asked o) buffer).answer) × (after ≡ (put_call_of (asked o) buffer).buffer) → Called result after
    called-read o e result after p = rw (order-read o e) p

    pub called-refused : (r : Refusal) → reading_of s ≡ Err r → (result : Punched) → result ≡ refused_of r → Called result buffer
    called-refused r e result is = rw (order-refused r e) (is, refl)
