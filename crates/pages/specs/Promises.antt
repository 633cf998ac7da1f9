-- Document 02, request 2: what is promised of the pages of an order, beyond what each call returns.
use Rattle.std.specs.Prelude.{ℕ, ◌-◌, ◌*◌, ◌≤◌, ◌<◌, ◌≡◌, [], length}
use Rattle.braille.specs.Braille.{SixDots}
use Rattle.order.specs.declared.reading.Order.{Order}
use Rattle.pages.specs.Pages.{rows_of, cells_of, page_rows, page_of, page_count, all_cells}

-- The pages of an order, from 1 to the last, have its rows, each once and in order. No other page has a row.
pub record PagesHoldTheRows (o : Order) : Type 0 where
  -- "A page is 25 rows, the last one those left"
  pub full : (page : ℕ) → 1 ≤ page → page < page_count o → length (page_of o page) ≡ page_rows
  pub last : 1 ≤ o.rows
      → (1 ≤ length (page_of o (page_count o))) × (length (page_of o (page_count o)) ≡ o.rows - page_rows * (page_count o - 1))
  -- "pages count from 1"
  pub none : (page : ℕ) → (1 ≤ page → page_count o < page) → page_of o page ≡ []
  pub held : all_cells o ≡ cells_of (rows_of o)
  -- "the other two bits are 0"
  pub six : SixDots (all_cells o)
