-- The rows of an order as a list, and their cells. Assumes nothing.
use Rattle.prelude.proofs.Logic.{◌≡◌, refl, sym, ap, ◌∙◌, List, [], ◌∷◌, ◌++◌, append_assoc, ℕ, zero, suc, ◌+◌, ◌-◌, ◌*◌, min, add-one}
use Rattle.prelude.proofs.Logic.{arith, length, take, drop, length-append}
use Rattle.braille.proofs.{Bits.six_append, Bits.row_six, Parts.row_length_lem}
use Rattle.braille.specs.{Braille.dots_of, Braille.SixDots, Cells.row_length}
use Rattle.calendar.specs.Answers.{row_date_of}
use Rattle.days.specs.Calls.{work_row_of}
use Rattle.order.specs.declared.reading.Order.{Order}
use Rattle.pages.specs.Pages.{Rows, row_of, rows_from, cells_of}

pub dots_append : (xs ys : List ℕ) → dots_of (xs ++ ys) ≡ dots_of xs + dots_of ys
unfolding dots_of
dots_append [] ys = omega arith
dots_append (x ∷ xs) ys = let i = dots_append xs ys in omega arith

pub cells_append : (xs ys : Rows) → cells_of (xs ++ ys) ≡ cells_of xs ++ cells_of ys
unfolding cells_of
cells_append [] ys = refl
cells_append (x ∷ xs) ys = rw (cells_append xs ys) (sym (append_assoc x (cells_of xs) (cells_of ys)))

module _ (o : Order) where
  pub rows-length : (k n : ℕ) → length (rows_from o k n) ≡ n
  unfolding rows_from
  rows-length k zero = refl
  rows-length k (suc n) = ap suc (rows-length (k + 1) n)

  pub cells-length : (k n : ℕ) → length (cells_of (rows_from o k n)) ≡ row_length * n
  unfolding rows_from cells_of
  cells-length k zero = refl
  cells-length k (suc n) =
      let i = cells-length (k + 1) n in
      let r = row_length_lem (row_date_of o.date k) (work_row_of o k) o.clock in
      let a = length-append (row_of o k) (cells_of (rows_from o (k + 1) n)) in
      omega arith

  pub cells-six : (k n : ℕ) → SixDots (cells_of (rows_from o k n))
  unfolding rows_from cells_of SixDots
  cells-six k zero = tt
  cells-six k (suc n) = six_append (row_of o k) (cells_of (rows_from o (k + 1) n)) (row_six (row_date_of o.date k) (work_row_of o k) o.clock)
      (cells-six (k + 1) n)

  -- one row more
  rows-suc : (k n : ℕ) → rows_from o k (suc n) ≡ rows_from o k n ++ (row_of o (k + n) ∷ [])
  unfolding rows_from
  rows-suc k zero = let e : k ≡ k + 0 = omega arith in ap (λ (j : ℕ). row_of o j ∷ []) e
  rows-suc k (suc n) =
      ap (λ (l : Rows). row_of o k ∷ l) (rows-suc (k + 1) n ∙ ap (λ (j : ℕ). rows_from o (k + 1) n ++ (row_of o j ∷ [])) (omega arith))

  pub rows_next : (k n : ℕ) → rows_from o k (n + 1) ≡ rows_from o k n ++ (row_of o (k + n) ∷ [])
  rows_next k n = rw (add-one n) (rows-suc k n)

  pub take-rows : (j k n : ℕ) → take j (rows_from o k n) ≡ rows_from o k (min j n)
  unfolding rows_from
  take-rows zero k n = let e : 0 ≡ min 0 n = omega arith in ap (rows_from o k) e
  take-rows (suc j) k zero = let e : 0 ≡ min (suc j) 0 = omega arith in ap (rows_from o k) e
  take-rows (suc j) k (suc n) =
      let e : suc (min j n) ≡ min (suc j) (suc n) = omega arith in
      ap (λ (l : Rows). row_of o k ∷ l) (take-rows j (k + 1) n) ∙ ap (rows_from o k) e

  pub drop-rows : (j k n : ℕ) → drop j (rows_from o k n) ≡ rows_from o (k + j) (n - j)
  unfolding rows_from
  drop-rows zero k n =
      let a : k ≡ k + 0 = omega arith in
      let b : n ≡ n - 0 = omega arith in
      ap (λ (i : ℕ). rows_from o i n) a ∙ ap (rows_from o (k + 0)) b
  drop-rows (suc j) k zero = let e : 0 ≡ 0 - suc j = omega arith in ap (rows_from o (k + suc j)) e
  drop-rows (suc j) k (suc n) =
      let a : k + 1 + j ≡ k + suc j = omega arith in
      let b : n - j ≡ suc n - suc j = omega arith in
      drop-rows j (k + 1) n ∙ ap (λ (i : ℕ). rows_from o i (n - j)) a ∙ ap (rows_from o (k + suc j)) b
