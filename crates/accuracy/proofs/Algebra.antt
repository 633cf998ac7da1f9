-- Rules that bring sums of products of natural numbers to one form, and two laws of powers. Assumes nothing.
use Rattle.prelude.proofs.Logic.{◌≡◌, sym, ◌∙◌, ℕ, zero, suc, ◌+◌, ◌*◌, ◌^◌, add_assoc, add_comm, add_left_comm, add-zero, zero-add}
use Rattle.prelude.proofs.Logic.{mul_assoc, mul_comm, mul_left_comm, mul-add, add-mul, mul-zero, zero-mul, mul-one, one-mul, pow-zero}
use Rattle.prelude.proofs.Logic.{pow-succ', pow-add}

-- `omega` multiplies out up to four factors. For more, these rules first multiply both sides out.
pub ruleset ring = (mul_assoc, mul_comm, mul_left_comm, mul-add, add-mul)

-- the same, and zeros and ones are removed
pub ruleset flat = (ring, mul-zero, zero-mul, mul-one, one-mul, add-zero, zero-add)

-- the same, and the summands are put in order: two equal sides become the same text
pub ruleset sorted = (flat, add_assoc, add_comm, add_left_comm)

pub mul_pow : (a b n : ℕ) → (a * b) ^ n ≡ a ^ n * b ^ n
mul_pow a b zero = simp pow-zero
mul_pow a b (suc n) = simp (pow-succ', mul_pow a b n, ring)

-- an even power is a power of the square
pub square_power : (a n : ℕ) → a ^ (n + n) ≡ (a * a) ^ n
square_power a n = pow-add a n n ∙ sym (mul_pow a a n)
