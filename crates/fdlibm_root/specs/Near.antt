-- This file need not be believed: it says what the private functions promise each other, and is no part of the definition of the root.
use Rattle.std.specs.Prelude.{ℕ, ◌+◌, ◌*◌, ◌^◌, ◌≤◌, ◌<◌}

-- s is the whole number nearest to the root of m * 2 ^ 52: s * (s - 1) < m * 2 ^ 52 ≤ s * (s + 1)
pub record NearRoot (m s : ℕ) : Type 0 where
  pub low : s * s < m * 2 ^ 52 + s
  pub high : m * 2 ^ 52 ≤ s * s + s
