-- The names of this crate that the crates above use, in one place. Nothing is added.
pub use Rattle.integers.proofs.Held.{Held, held_sum, stored, constant, held_as, held_fits, promised, of_i64, held_by}
pub use Rattle.integers.proofs.Held.{held_difference, asked, of_wide, held_product}
pub use Rattle.integers.proofs.Intervals.{by_balance, Inside, wider, natural_between, sum_between, difference_between}
pub use Rattle.integers.proofs.Intervals.{either_between, product_between, toward_between, inside_between, shifted_between}
pub use Rattle.integers.proofs.OrderLaws.{le_yes, lt_yes, lt_no, le_no, to_le, to_not_le, to_lt, to_not_lt}
pub use Rattle.integers.proofs.PartsLaws.{same, not_negative, not_positive, natural}
pub use Rattle.integers.proofs.QuotientLaws.{divided, floored, Floored}
pub use Rattle.integers.proofs.Ranges.{range, fits, read_back, read, read_wide, wide}
pub use Rattle.integers.proofs.Sums.{sum, difference, flip, summands, times, differences}
pub use Rattle.integers.specs.Order.{◌≼◌}
pub use Rattle.integers.specs.Parts.{P, N, Near, Between}
pub use Rattle.integers.specs.Quotients.{floor_quot, floor_rem}
