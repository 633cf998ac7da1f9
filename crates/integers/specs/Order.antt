-- The order of integers, by their parts: a form for the proofs, which need not be believed.
use Rattle.std.specs.Prelude.{◌+◌, ◌≤◌, ℤ}
use Rattle.integers.specs.Parts.{P, N}

-- x is at most y: P x - N x ≤ P y - N y, written with sums because a difference of natural numbers stops at 0
infix 4 ◌≼◌
abbrev pub ◌≼◌ : ℤ → ℤ → Type 0
x ≼ y = P x + N y ≤ P y + N x
