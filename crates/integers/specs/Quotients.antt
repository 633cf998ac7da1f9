-- Quotient and remainder by a natural number above 0, rounded down: the remainder is from 0 to k - 1.
use Rattle.std.specs.Prelude.{ℕ, ◌-◌, ◌/◌, ◌%◌, ℤ, pos, negsuc}

abbrev pub floor_quot : ℤ → ℕ → ℤ
floor_quot (pos a) k = pos (a / k)
floor_quot (negsuc a) k = negsuc (a / k)

abbrev pub floor_rem : ℤ → ℕ → ℕ
floor_rem (pos a) k = a % k
floor_rem (negsuc a) k = k - 1 - a % k
