-- This file need not be believed: the days that the code counts from 1-1-1. proofs/ByCount.antt says that they give the date of Days.
use Rattle.std.specs.Prelude.{ℕ, cond, leb, ℤ, pos, ◌+ℤ◌}
use Rattle.integers.specs.Parts.{P}

-- the days from 1-1-1 to a day, or to the last date of the year 4294967295 if the day is after it
unfoldable pub since_first_of : ℤ → ℕ
since_first_of day = let n = P (day +ℤ pos 492148) in cond (leb n 1521993243770) n 1521993243770
