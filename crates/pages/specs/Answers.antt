-- Document 02, requests 2 and 9: what the calls on a row and on a page of cells return, and every byte of the lent buffer after them.
use Rattle.std.specs.Prelude.{ℕ, ◌/◌, cond, List, [], ◌∷◌, ltb, length, Err, Ok, Result}
use Rattle.braille.specs.Braille.{dots_of}
use Rattle.braille.specs.Cells.{row_length}
use Rattle.days.specs.Calls.{lacks_row}
use Rattle.order.specs.declared.reading.Order.{Order}
use Rattle.order.specs.Reading.{reading_of}
use Rattle.refusals.specs.Refusals.{refusal, no_refusal, buffer_short}
use Rattle.refusals.specs.declared.Refusal.{Refusal}
use Rattle.text.specs.Text.{front_of}
use Rattle.pages.specs.Pages.{Rows, row_of, cells_of, page_of, piece_of}
use Rattle.pages.specs.declared.answer.Punched.{Punched}

abbrev pub punched_of : Rows → Punched
punched_of rows = record { refusal = no_refusal; rows = length rows; dots = dots_of (cells_of rows) }

abbrev pub refused_of : Refusal → Punched
refused_of r = record { refusal = r; rows = 0; dots = 0 }

-- ---- what a call returns, and every byte of the lent buffer after it
pub record CellsCall : Type 0 where
  pub answer : Punched
  pub buffer : List ℕ

-- "A refusal .. changes no lent byte."
abbrev pub refusing : Refusal → List ℕ → CellsCall
refusing r buffer = record { answer = refused_of r; buffer = buffer }

-- the rows that were asked for, at the front; "Here and later, bytes of a lent buffer after what is written stay". "A page that the order
-- lacks gets 5 with place 3", and so does a row.
unfoldable pub put_call_of : Rows → List ℕ → CellsCall
put_call_of [] buffer = refusing lacks_row buffer
put_call_of (row ∷ rows) buffer = record { answer = punched_of (row ∷ rows); buffer = front_of (cells_of (row ∷ rows)) buffer }

abbrev pub call_in : (Order → Rows) → Result Order Refusal → List ℕ → CellsCall
call_in asked (Ok o) buffer = put_call_of (asked o) buffer
call_in asked (Err r) buffer = refusing r buffer

-- a call on an order's bytes that asks for some of its rows. A buffer under `least` bytes is 9; this is checked first
unfoldable pub asked_call_of : (Order → Rows) → ℕ → List ℕ → List ℕ → CellsCall
asked_call_of asked least s buffer =
    cond (ltb (length buffer) least) (refusing (refusal buffer_short 0) buffer) (call_in asked (reading_of s) buffer)

-- ---- a row: "A cell buffer under 39 bytes .. gets 9"
unfoldable pub one_row : ℕ → Order → Rows
one_row row o = cond (ltb row o.rows) (row_of o row ∷ []) []

abbrev pub cells_call_of : List ℕ → ℕ → List ℕ → CellsCall
cells_call_of s row buffer = asked_call_of (one_row row) row_length s buffer

-- ---- a page, or a piece of it. Request 9: "The page call now also takes the page's row to begin at, from 0, puts in as many whole rows as
-- have room and are left, and answers how many and their dots. .. Of scratches only one under 39 gets 9; a row that the page lacks gets 5
-- with place 3."
abbrev pub piece_in : ℕ → ℕ → List ℕ → Order → Rows
piece_in page first scratch o = piece_of (page_of o page) first (length scratch / row_length)

abbrev pub page_call_of : List ℕ → ℕ → ℕ → List ℕ → CellsCall
page_call_of s page first scratch = asked_call_of (piece_in page first scratch) row_length s scratch
