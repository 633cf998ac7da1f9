-- The rows of a page, and those of all pages. Assumes nothing.
use Rattle.prelude.proofs.Logic.{◌≡◌, refl, sym, ap, subst, ◌∙◌, List, [], ◌∷◌, ◌++◌, ℕ, zero, suc, ◌+◌, ◌-◌, ◌*◌, ◌≤◌, ◌<◌, min, arith}
use Rattle.prelude.proofs.Logic.{length, take, drop, drop_of_length-le, take_all, take-add, take-nil}
use Rattle.braille.specs.Braille.{SixDots}
use Rattle.order.specs.declared.reading.Order.{Order}
use Rattle.pages.specs.Pages.{Rows, rows_from, rows_of, cells_of, page_of, piece_of, page_count, pages_cells, all_cells}
use Rattle.pages.specs.Promises.{PagesHoldTheRows}
use Rattle.pages.proofs.RowsLaws.{cells_append, rows-length, cells-six, take-rows, drop-rows}

module _ (o : Order) where
  -- a page's rows are the order's
  page-suc : (p : ℕ) → page_of o (suc p) ≡ rows_from o (25 * p) (min 25 (o.rows - 25 * p))
  unfolding page_of
  page-suc p =
      let e : 0 + 25 * p ≡ 25 * p = omega arith in
      ap (take 25) (drop-rows o (25 * p) 0 o.rows)
      ∙ take-rows o 25 (0 + 25 * p) (o.rows - 25 * p)
      ∙ ap (λ (k : ℕ). rows_from o k (min 25 (o.rows - 25 * p))) e

  suc-length : (p : ℕ) → length (page_of o (suc p)) ≡ min 25 (o.rows - 25 * p)
  suc-length p = ap length (page-suc p) ∙ rows-length o (25 * p) (min 25 (o.rows - 25 * p))

  pub page-none : (page : ℕ) → page ≡ 0 → 0 ≡ length (page_of o page)
  unfolding page_of
  page-none page e = rw e refl

  pub page-length : (page : ℕ) → 1 ≤ page → length (page_of o page) ≡ min 25 (o.rows - 25 * (page - 1))
  page-length zero h = absurd (omega arith)
  page-length (suc p) h = let e = suc-length p in omega arith

  pub page-rows : (page : ℕ) → 1 ≤ page → page_of o page ≡ rows_from o (25 * (page - 1)) (length (page_of o page))
  page-rows zero h = absurd (omega arith)
  page-rows (suc p) h =
      let e : 25 * p ≡ 25 * (suc p - 1) = omega arith in
      page-suc p
      ∙ ap (rows_from o (25 * p)) (sym (suc-length p))
      ∙ ap (λ (k : ℕ). rows_from o k (length (page_of o (suc p)))) e

  -- a page that has rows is a page of the order, and its rows are the order's
  pub page-within : (page : ℕ) → 1 ≤ length (page_of o page) → (1 ≤ page) × (25 * (page - 1) + length (page_of o page) ≤ o.rows)
      × (length (page_of o page) ≤ 25)
  unfolding page_of
  page-within zero h = absurd (omega arith)
  page-within (suc p) h = let e = suc-length p in (omega arith, omega arith, omega arith)

  pub page-most : (page : ℕ) → length (page_of o page) ≤ 25
  unfolding page_of
  page-most zero = omega arith
  page-most (suc p) = let e = suc-length p in omega arith

  -- a piece of a page: rows of the order, and none after the page's end
  piece-rows : (page first room : ℕ) → 1 ≤ page
      → piece_of (page_of o page) first room ≡ rows_from o (25 * (page - 1) + first) (min room (length (page_of o page) - first))
  piece-rows page first room h =
      ap (λ (l : Rows). take room (drop first l)) (page-rows page h)
      ∙ ap (take room) (drop-rows o first (25 * (page - 1)) (length (page_of o page)))
      ∙ take-rows o room (25 * (page - 1) + first) (length (page_of o page) - first)

  pub piece-none : (page first room : ℕ) → length (page_of o page) ≤ first → length (piece_of (page_of o page) first room) ≡ 0
  piece-none page first room h =
      let e : drop first (page_of o page) ≡ [] = drop_of_length-le (page_of o page) h in
      ap (λ (l : Rows). length (take room l)) e ∙ ap length (take-nil {A = List ℕ} room)

  -- what a call writes if the page has the row `first`: the order's rows from there on, as many as fit and are left
  pub record Written (page first room taken : ℕ) : Type 0 where
    pub from : 1 ≤ page
    pub some : 1 ≤ taken
    pub fit : taken ≤ room
    pub within : 25 * (page - 1) + first + taken ≤ o.rows
    pub rows : rows_from o (25 * (page - 1) + first) taken ≡ piece_of (page_of o page) first room

  pub piece-written : (page first room count taken : ℕ) → count ≡ length (page_of o page) → first < count → 1 ≤ room
      → taken ≡ min room (count - first)
      → Written page first room taken
  piece-written page first room count taken e has one t =
      let w = page-within page (omega arith) in
      record {
        from = w.0;
        some = omega arith;
        fit = omega arith;
        within = omega (arith, w.1);
        rows = ap (rows_from o (25 * (page - 1) + first)) (t ∙ ap (λ (n : ℕ). min room (n - first)) e)
            ∙ sym (piece-rows page first room w.0);
      }

  pages-taken : (n : ℕ) → pages_cells o n ≡ cells_of (take (25 * n) (rows_of o))
  unfolding pages_cells page_of cells_of
  pages-taken zero = refl
  pages-taken (suc n) =
      let rows = rows_of o in
      let e : 25 * n + 25 ≡ 25 * suc n = omega arith in
      ap (λ (l : List ℕ). l ++ cells_of (take 25 (drop (25 * n) rows))) (pages-taken n)
      ∙ sym (cells_append (take (25 * n) rows) (take 25 (drop (25 * n) rows)))
      ∙ ap cells_of (sym (take-add (25 * n) 25 rows))
      ∙ ap (λ (k : ℕ). cells_of (take k rows)) e

  pub all-cells : all_cells o ≡ cells_of (rows_of o)
  all-cells =
      let l = rows-length o 0 o.rows in
      let n = page_count o in
      pages-taken n ∙ ap cells_of (take_all (25 * n) (rows_of o) (omega arith))

  no_rows : (rows : Rows) → length rows ≡ 0 → rows ≡ []
  no_rows [] e = refl
  no_rows (row ∷ rows) e = absurd (omega arith)

  other-page : (page : ℕ) → (1 ≤ page → page_count o < page) → page_of o page ≡ []
  other-page zero h = no_rows (page_of o 0) (sym (page-none 0 refl))
  other-page (suc page) h =
      let past = h (omega arith) in
      let e = page-length (suc page) (omega arith) in
      no_rows (page_of o (suc page)) (omega arith)

  pub pages-hold-the-rows : PagesHoldTheRows o
  pages-hold-the-rows =
      record {
        full = λ page from to. let e = page-length page from in omega arith;
        last = λ some. let e = page-length (page_count o) (omega arith) in (omega arith, omega arith);
        none = other-page;
        held = all-cells;
        six = subst SixDots (sym all-cells) (cells-six o 0 o.rows);
      }
