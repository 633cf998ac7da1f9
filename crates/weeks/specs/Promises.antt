-- Document 02, request 11: what is promised of the windows of an order, beyond what the report prints. "earliest", "latest" and "the first
-- row having each" mean what they say.
use Rattle.std.specs.Prelude.{ℕ, ◌+◌, ◌≤◌}
use Rattle.order.specs.declared.reading.Order.{Order}
use Rattle.weeks.specs.Meaning.{Answers}
use Rattle.weeks.specs.Report.{row_minute}
use Rattle.weeks.specs.Windows.{window_of}

-- For every order: a run of seven successive rows is refused if one of them is; else its window is right.
pub record WindowsMeanIt (o : Order) : Type 0 where
  pub answers : (first : ℕ) → first + 7 ≤ o.rows → Answers (row_minute o) first (first + 7) (window_of (row_minute o) first)
