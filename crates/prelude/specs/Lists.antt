-- A list of numbers, and whether a number is one of them.
use Rattle.std.specs.Prelude.{ℕ, Bool, false, ◌||◌, List, [], ◌∷◌, eqb}

unfoldable pub listed : List ℕ → ℕ → Bool
listed [] n = false
listed (x ∷ xs) n = eqb x n || listed xs n
