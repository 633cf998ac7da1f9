-- Document 02, request 9, over the page call as a host makes it: "Calls on from row 0 to the page's end must give, for every scratch length
-- from 39 up, the same cells in the same order and the same dot total as 975 does."
use Rattle.std.specs.Prelude.{ℕ, ◌+◌, ◌*◌, ◌≤◌, ◌≡◌, List, [], ◌++◌, length, take, Ok}
use Rattle.braille.specs.Cells.{row_length}
use Rattle.days.specs.Calls.{lacks_row}
use Rattle.order.specs.declared.reading.Order.{Order}
use Rattle.order.specs.Reading.{reading_of}
use Rattle.refusals.specs.Refusals.{no_refusal}
use Rattle.pages.specs.Answers.{asked_call_of, page_call_of}
use Rattle.pages.specs.Pages.{page_rows, page_of}

-- the bytes of a scratch that holds a whole page
abbrev pub page_length : ℕ
page_length = row_length * page_rows

-- the cells that a call has put at the scratch's front, by the number of rows that it returns
abbrev pub cells_got : ℕ → ℕ → List ℕ → List ℕ → List ℕ
cells_got page first s scratch = take (row_length * (page_call_of s page first scratch).answer.rows) (page_call_of s page first scratch).buffer

-- A host's calls on a page. Call n is lent the scratch `lent n`. Each call begins at the row where the one before it ended, until one
-- returns 5, place 3. From row `first` on the calls have got these cells, put together in turn, and this total of dots.
pub data Calls (s : List ℕ) (page : ℕ) (lent : ℕ → List ℕ) : ℕ → ℕ → List ℕ → ℕ → Type 0 where
  ended : {n first : ℕ} → (page_call_of s page first (lent n)).answer.refusal ≡ lacks_row → Calls s page lent n first [] 0
  called : {n first dots : ℕ} {cells : List ℕ} → (page_call_of s page first (lent n)).answer.refusal ≡ no_refusal
      → Calls s page lent (n + 1) (first + (page_call_of s page first (lent n)).answer.rows) cells dots
      → Calls s page lent n first (cells_got page first s (lent n) ++ cells) ((page_call_of s page first (lent n)).answer.dots + dots)

-- the calls from row 0 on end for every order that is read; and on any bytes, calls that end have got what one call with `whole` gives
pub record GiveThePage (s : List ℕ) (page : ℕ) (lent : ℕ → List ℕ) (whole : List ℕ) : Type 0 where
  pub ends : (o : Order) → reading_of s ≡ Ok o → (cells : List ℕ) × (dots : ℕ) × Calls s page lent 0 0 cells dots
  pub same : (cells : List ℕ) (dots : ℕ) → Calls s page lent 0 0 cells dots
      → (cells ≡ cells_got page 0 s whole) × (dots ≡ (page_call_of s page 0 whole).answer.dots)

-- for any page, if each scratch has 39 bytes or more, of any length at each call, and `whole` has 975 or more
abbrev pub PiecesAreThePage : Type 0
PiecesAreThePage =
    (s : List ℕ) (page : ℕ) (lent : ℕ → List ℕ) (whole : List ℕ) → ((n : ℕ) → row_length ≤ length (lent n)) → page_length ≤ length whole
    → GiveThePage s page lent whole

-- a call from row 0 on with a scratch of 975 bytes or more is what the page call was before request 9: the whole page, every byte of the
-- scratch, and every refusal
abbrev pub AtOnceAsBefore : Type 0
AtOnceAsBefore =
    (s : List ℕ) (page : ℕ) (scratch : List ℕ) → page_length ≤ length scratch
    → page_call_of s page 0 scratch ≡ asked_call_of (λ o. page_of o page) page_length s scratch
