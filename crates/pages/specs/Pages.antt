-- Document 02, requests 2 and 9: the rows of cells of an order, its pages and pieces of them.
use Rattle.std.specs.Prelude.{ℕ, zero, suc, ◌+◌, ◌-◌, ◌*◌, ◌/◌, List, [], ◌∷◌, ◌++◌, take, drop}
use Rattle.braille.specs.Cells.{row_cells}
use Rattle.calendar.specs.Answers.{row_date_of}
use Rattle.days.specs.Calls.{work_row_of}
use Rattle.order.specs.declared.reading.Order.{Order}

-- the cells of a row: its own date and that day's times, or the date alone if the day is refused
abbrev pub row_of : Order → ℕ → List ℕ
row_of o row = row_cells (row_date_of o.date row) (work_row_of o row) o.clock

-- rows, each by its cells
abbrev pub Rows : Type 0
Rows = List (List ℕ)

-- n rows from row k on
unfoldable pub rows_from : Order → ℕ → ℕ → Rows
rows_from o k zero = []
rows_from o k (suc n) = row_of o k ∷ rows_from o (k + 1) n

abbrev pub rows_of : Order → Rows
rows_of o = rows_from o 0 o.rows

-- the cells of rows, one row after another
unfoldable pub cells_of : Rows → List ℕ
cells_of [] = []
cells_of (row ∷ rows) = row ++ cells_of rows

abbrev pub page_rows : ℕ
page_rows = 25

-- "A page is 25 rows, the last one those left; pages count from 1". Page 0 and a page that the order lacks have no rows.
unfoldable pub page_of : Order → ℕ → Rows
page_of o zero = []
page_of o (suc p) = take page_rows (drop (page_rows * p) (rows_of o))

-- request 9: "as many whole rows as have room and are left", from a row on
abbrev pub piece_of : Rows → ℕ → ℕ → Rows
piece_of rows first room = take room (drop first rows)

abbrev pub page_count : Order → ℕ
page_count o = (o.rows + (page_rows - 1)) / page_rows

-- the cells of the first n pages, one page after another
unfoldable pub pages_cells : Order → ℕ → List ℕ
pages_cells o zero = []
pages_cells o (suc p) = pages_cells o p ++ cells_of (page_of o (suc p))

abbrev pub all_cells : Order → List ℕ
all_cells o = pages_cells o (page_count o)
