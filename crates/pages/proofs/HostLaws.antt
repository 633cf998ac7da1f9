-- A host's calls on a page give the page, for all scratches that it lends. Assumes nothing.
use Rattle.std.specs.Prelude.{Err, Ok, Result}
use Rattle.prelude.proofs.Logic.{◌≡◌, refl, sym, ap, ◌∙◌, List, [], ◌∷◌, ◌++◌, ℕ, zero, suc, ◌+◌, ◌-◌, ◌*◌, ◌/◌, ◌≤◌, ◌<◌, min, arith, ltb}
use Rattle.prelude.proofs.Logic.{length, take, drop, drop_of_length-le, take_all, take_at, drop-drop, ltb-true, ltb-false, cases}
use Rattle.braille.specs.Braille.{dots_of}
use Rattle.days.specs.Calls.{lacks_row}
use Rattle.order.specs.declared.reading.{Order.Order}
use Rattle.order.specs.Reading.{reading_of}
use Rattle.refusals.specs.{Refusals.no_refusal, declared.Refusal.Refusal}
use Rattle.pages.specs.Answers.{CellsCall, punched_of, refused_of, put_call_of, asked_call_of, piece_in, page_call_of}
use Rattle.pages.specs.Host.{cells_got, Calls, ended, called, PiecesAreThePage, AtOnceAsBefore}
use Rattle.pages.specs.Pages.{Rows, cells_of, page_of, piece_of}
use Rattle.pages.specs.declared.answer.Punched.{Punched}
use Rattle.pages.proofs.AnswerLaws.{same_answer, rows_some, rows_none, order-read, order-refused}
use Rattle.pages.proofs.PageLaws.{page-most, piece-none, piece-written}
use Rattle.pages.proofs.RowsLaws.{dots_append, cells_append, rows-length, cells-length}

-- the first rows, and the rest after them, are all the rows
took : (k : ℕ) (rows : Rows) → take k rows ++ drop (length (take k rows)) rows ≡ rows
took zero rows = refl
took (suc k) [] = refl
took (suc k) (row ∷ rows) = ap (λ (l : Rows). row ∷ l) (took k rows)

-- the cells of a piece, and of the rows after it
rest : (rows : Rows) (first room : ℕ) → cells_of (piece_of rows first room)
    ++ cells_of (drop (first + length (piece_of rows first room)) rows) ≡ cells_of (drop first rows)
rest rows first room =
    let piece = piece_of rows first room in
    ap (λ (l : Rows). cells_of piece ++ cells_of l) (sym (drop-drop (length piece) first rows))
    ∙ sym (cells_append piece (drop (length piece) (drop first rows)))
    ∙ ap cells_of (took room (drop first rows))

-- an order that is read
module _ (s : List ℕ) (page : ℕ) (o : Order) (e : reading_of s ≡ Ok o) where
  -- What a call returns if the page has the row `first`: how many rows the piece has, at least one, their dots and their cells.
  record Piece (first : ℕ) (scratch : List ℕ) : Type 0 where
    none : (page_call_of s page first scratch).answer.refusal ≡ no_refusal
    some : 1 ≤ (page_call_of s page first scratch).answer.rows
    rows : (page_call_of s page first scratch).answer.rows ≡ length (piece_in page first scratch o)
    dots : (page_call_of s page first scratch).answer.dots ≡ dots_of (cells_of (piece_in page first scratch o))
    cells : cells_got page first s scratch ≡ cells_of (piece_in page first scratch o)

  has-row : (first : ℕ) (scratch : List ℕ) → 39 ≤ length scratch → first < length (page_of o page) → Piece first scratch
  has-row first scratch long h =
      let room = length scratch / 39 in
      let taken = min room (length (page_of o page) - first) in
      let row = 25 * (page - 1) + first in
      let piece = piece_in page first scratch o in
      let w = piece-written o page first room (length (page_of o page)) taken refl h (omega arith) refl in
      let l : taken ≡ length piece = sym (rows-length o row taken) ∙ ap length w.rows in
      let r = order-read (piece_in page first scratch) 39 s scratch long o e in
      let put = r ∙ rows_some piece scratch (omega (arith, w.some)) in
      let a : (page_call_of s page first scratch).answer ≡ punched_of piece = same_answer put in
      let k : (page_call_of s page first scratch).answer.rows ≡ length piece = ap (λ (p : Punched). p.rows) a in
      let c : length (cells_of piece) ≡ 39 * length piece = ap (λ (x : Rows). length (cells_of x)) (sym w.rows) ∙ cells-length o row taken
      ∙ ap (λ (n : ℕ). 39 * n) l in
      record {
        none = ap (λ (p : Punched). p.refusal) a;
        some = omega (arith, w.some);
        rows = k;
        dots = ap (λ (p : Punched). p.dots) a;
        cells = ap (λ (n : ℕ). take (39 * n) (page_call_of s page first scratch).buffer) k
            ∙ ap (λ (p : CellsCall). take (39 * length piece) p.buffer) put
            ∙ take_at (cells_of piece) (drop (length (cells_of piece)) scratch) (39 * length piece) c;
      }

  lacks-row : (first : ℕ) (scratch : List ℕ) → 39 ≤ length scratch → length (page_of o page) ≤ first
      → (page_call_of s page first scratch).answer ≡ refused_of lacks_row
  lacks-row first scratch long h =
      let none = piece-none o page first (length scratch / 39) h in
      same_answer (order-read (piece_in page first scratch) 39 s scratch long o e ∙ rows_none (piece_in page first scratch o) scratch none)

  -- the cells and the dots of the page's rows from `first` on
  abbrev Rest : ℕ → List ℕ → ℕ → Type 0
  Rest first cells dots = (cells ≡ cells_of (drop first (page_of o page))) × (dots ≡ dots_of (cells_of (drop first (page_of o page))))

  module _ (lent : ℕ → List ℕ) (long : (n : ℕ) → 39 ≤ length (lent n)) where
    at-end : (n first : ℕ) → (page_call_of s page first (lent n)).answer.refusal ≡ lacks_row → Rest first [] 0
    unfolding cells_of dots_of
    at-end n first z =
        cases (ltb first (length (page_of o page)))
        (λ t. let p = has-row first (lent n) (long n) (ltb-true first (length (page_of o page)) t) in
        let five : ◌≡◌ {A = ℕ} 5 0 = ap (λ (r : Refusal). r.number) (sym z ∙ p.none) in
        absurd (omega arith))
        (λ t. let d : drop first (page_of o page) ≡ [] = drop_of_length-le (page_of o page) (ltb-false first (length (page_of o page)) t) in
        (sym (ap cells_of d), sym (ap (λ (l : Rows). dots_of (cells_of l)) d)))

    one_more : (n first : ℕ) (cells : List ℕ) (dots : ℕ) → (page_call_of s page first (lent n)).answer.refusal ≡ no_refusal
        → Rest (first + (page_call_of s page first (lent n)).answer.rows) cells dots
        → Rest first (cells_got page first s (lent n) ++ cells) ((page_call_of s page first (lent n)).answer.dots + dots)
    one_more n first cells dots z i =
        cases (ltb first (length (page_of o page)))
        (λ t. let p = has-row first (lent n) (long n) (ltb-true first (length (page_of o page)) t) in
        let piece = piece_in page first (lent n) o in
        let left = cells_of (drop (first + length piece) (page_of o page)) in
        let c : cells ≡ left = i.0 ∙ ap (λ (k : ℕ). cells_of (drop (first + k) (page_of o page))) p.rows in
        let d : dots ≡ dots_of left = i.1 ∙ ap (λ (k : ℕ). dots_of (cells_of (drop (first + k) (page_of o page)))) p.rows in
        let r = rest (page_of o page) first (length (lent n) / 39) in
        let sum = dots_append (cells_of piece) left in
        let f : dots_of (cells_of piece ++ left) ≡ dots_of (cells_of (drop first (page_of o page))) = ap dots_of r in
        let q = p.dots in
        (ap (λ (l : List ℕ). l ++ cells) p.cells ∙ ap (λ (l : List ℕ). cells_of piece ++ l) c ∙ r, omega arith))
        (λ t. let l = lacks-row first (lent n) (long n) (ltb-false first (length (page_of o page)) t) in
        let five : ◌≡◌ {A = ℕ} 0 5 = ap (λ (r : Refusal). r.number) (sym z ∙ ap (λ (p : Punched). p.refusal) l) in
        absurd (omega arith))

    -- calls from any row on get the rest of the page
    got : {n first dots : ℕ} {cells : List ℕ} → Calls s page lent n first cells dots → Rest first cells dots
    got (ended {n} {first} z) = at-end n first z
    got (called {n} {first} {dots} {cells} z r) = one_more n first cells dots z (got r)

    ends-here : (n first : ℕ) → length (page_of o page) ≤ first → (cells : List ℕ) × (dots : ℕ) × Calls s page lent n first cells dots
    ends-here n first h = ([], 0, ended (ap (λ (p : Punched). p.refusal) (lacks-row first (lent n) (long n) h)))

    -- the calls end if at most k rows are left
    ends-after : (k n first : ℕ) → length (page_of o page) ≤ first + k → (cells : List ℕ) × (dots : ℕ) × Calls s page lent n first cells dots
    ends-after zero n first h = ends-here n first (omega arith)
    ends-after (suc k) n first h =
        cases (ltb first (length (page_of o page)))
        (λ t. let p = has-row first (lent n) (long n) (ltb-true first (length (page_of o page)) t) in
        let r = ends-after k (n + 1) (first + (page_call_of s page first (lent n)).answer.rows) (omega (arith, p.some)) in
        (cells_got page first s (lent n) ++ r.0, (page_call_of s page first (lent n)).answer.dots + r.1, called p.none r.2))
        (λ t. ends-here n first (ltb-false first (length (page_of o page)) t))

    pub read-ends : (cells : List ℕ) × (dots : ℕ) × Calls s page lent 0 0 cells dots
    read-ends = ends-after (length (page_of o page)) 0 0 (omega arith)

  -- a whole page fits 975 bytes
  pub whole-piece : (whole : List ℕ) → 975 ≤ length whole → piece_in page 0 whole o ≡ page_of o page
  whole-piece whole room =
      let most = page-most o page in
      take_all (length whole / 39) (page_of o page) (omega arith)

  whole-got : (whole : List ℕ) → 975 ≤ length whole → Rest 0 (cells_got page 0 s whole) (page_call_of s page 0 whole).answer.dots
  unfolding cells_of dots_of
  whole-got whole room =
      cases (ltb 0 (length (page_of o page)))
      (λ t. let p = has-row 0 whole (omega arith) (ltb-true 0 (length (page_of o page)) t) in
      let w = whole-piece whole room in
      (p.cells ∙ ap cells_of w, p.dots ∙ ap (λ (l : Rows). dots_of (cells_of l)) w))
      (λ t. let h = ltb-false 0 (length (page_of o page)) t in
      let l = lacks-row 0 whole (omega arith) h in
      let d : page_of o page ≡ [] = drop_of_length-le (page_of o page) h in (
        ap (λ (p : Punched). take (39 * p.rows) (page_call_of s page 0 whole).buffer) l ∙ sym (ap cells_of d),
        ap (λ (p : Punched). p.dots) l ∙ sym (ap (λ (l : Rows). dots_of (cells_of l)) d),
      ))

  pub read_same : (lent : ℕ → List ℕ) → ((n : ℕ) → 39 ≤ length (lent n)) → (whole : List ℕ) → 975 ≤ length whole
      → {cells : List ℕ} {dots : ℕ} → Calls s page lent 0 0 cells dots
      → (cells ≡ cells_got page 0 s whole) × (dots ≡ (page_call_of s page 0 whole).answer.dots)
  read_same lent long whole room calls =
      let g = got lent long calls in
      let w = whole-got whole room in
      (g.0 ∙ sym w.0, g.1 ∙ sym w.1)

-- a refused order: no call gives a cell
module _ (s : List ℕ) (page : ℕ) (r : Refusal) (e : reading_of s ≡ Err r) where
  refused-answer : (first : ℕ) (scratch : List ℕ) → 39 ≤ length scratch → (page_call_of s page first scratch).answer ≡ refused_of r
  refused-answer first scratch long = same_answer (order-refused (piece_in page first scratch) 39 s scratch long r e)

  nothing-got : (first : ℕ) (scratch : List ℕ) → 39 ≤ length scratch
      → (cells_got page first s scratch ≡ []) × ((page_call_of s page first scratch).answer.dots ≡ 0)
  nothing-got first scratch long =
      let a = refused-answer first scratch long in
      (ap (λ (p : Punched). take (39 * p.rows) (page_call_of s page first scratch).buffer) a, ap (λ (p : Punched). p.dots) a)

  nothing-in-all : (lent : ℕ → List ℕ) → ((n : ℕ) → 39 ≤ length (lent n)) → {n first dots : ℕ} {cells : List ℕ}
      → Calls s page lent n first cells dots
      → (cells ≡ []) × (dots ≡ 0)
  nothing-in-all lent long (ended z) = (refl, refl)
  nothing-in-all lent long (called {n} {first} {dots} {cells} z calls) =
      let i = nothing-in-all lent long calls in
      let a = nothing-got first (lent n) (long n) in
      (ap (λ (l : List ℕ). l ++ cells) a.0 ∙ i.0, omega (arith, a.1, i.1))

  pub refused-same : (lent : ℕ → List ℕ) → ((n : ℕ) → 39 ≤ length (lent n)) → (whole : List ℕ) → 975 ≤ length whole
      → {cells : List ℕ} {dots : ℕ} → Calls s page lent 0 0 cells dots
      → (cells ≡ cells_got page 0 s whole) × (dots ≡ (page_call_of s page 0 whole).answer.dots)
  refused-same lent long whole room calls =
      let g = nothing-in-all lent long calls in
      let w = nothing-got 0 whole (omega arith) in
      (g.0 ∙ sym w.0, g.1 ∙ sym w.1)

-- request 9: the calls on a page, put together, give the page
pub pieces_are_the_page : PiecesAreThePage
pieces_are_the_page s page lent whole long room =
    record {
      ends = λ o e. read-ends s page o e lent long;
      same = λ cells dots calls. by-reading (reading_of s) refl calls;
    }
  where
    by-reading : (r : Result Order Refusal) → reading_of s ≡ r → {cells : List ℕ} {dots : ℕ} → Calls s page lent 0 0 cells dots
        → (cells ≡ cells_got page 0 s whole) × (dots ≡ (page_call_of s page 0 whole).answer.dots)
    by-reading (Ok o) e calls = read_same s page o e lent long whole room calls
    by-reading (Err r) e calls = refused-same s page r e lent long whole room calls

pub at_once_as_before : AtOnceAsBefore
at_once_as_before s page scratch room = by-reading (reading_of s) refl
  where
    by-reading : (r : Result Order Refusal) → reading_of s ≡ r → page_call_of s page 0 scratch ≡ asked_call_of (λ o. page_of o page) 975 s scratch
    by-reading (Ok o) e =
        order-read (piece_in page 0 scratch) 39 s scratch (omega arith) o e
        ∙ ap (λ (l : Rows). put_call_of l scratch) (whole-piece s page o e scratch room)
        ∙ sym (order-read (λ o. page_of o page) 975 s scratch room o e)
    by-reading (Err r) e =
        order-refused (piece_in page 0 scratch) 39 s scratch (omega arith) r e
        ∙ sym (order-refused (λ o. page_of o page) 975 s scratch room r e)
