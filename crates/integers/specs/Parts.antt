-- An integer as the difference of two natural numbers, z = P z - N z, one of them 0. `omega` reads only natural numbers, so statements
-- about integers use P and N. The laws (proofs/) say what each operation does to the two. Assumes nothing.
use Rattle.std.specs.Prelude.{ℕ, suc, ◌≤◌, ℤ, pos, negsuc}

-- z's positive part
abbrev pub P : ℤ → ℕ
P (pos n) = n
P (negsuc n) = 0

-- its negative part
abbrev pub N : ℤ → ℕ
N (pos n) = 0
N (negsuc n) = suc n

-- z is from -a to b
pub record Between (a b : ℕ) (z : ℤ) : Type 0 where
  pub from : N z ≤ a
  pub to : P z ≤ b

-- from -n to n
abbrev pub Near : ℕ → ℤ → Type 0
Near n z = Between n n z
