-- What the balance of an integer's parts says of it. Assumes nothing.
use Rattle.prelude.proofs.Logic.{◌≡◌, refl, ap, ◌+◌, ◌≤◌, arith, ℤ, pos, negsuc}
use Rattle.integers.specs.Parts.{P, N}

-- two integers with the same balance are equal
pub same : (x y : ℤ) → P x + N y ≡ P y + N x → x ≡ y
same (pos a) (pos b) h = ap pos (omega arith)
same (pos a) (negsuc b) h = absurd (omega arith)
same (negsuc a) (pos b) h = absurd (omega arith)
same (negsuc a) (negsuc b) h = ap negsuc (omega arith)

-- one of the two parts is 0
pub not_negative : (z : ℤ) → N z ≤ P z → N z ≡ 0
not_negative (pos n) h = refl
not_negative (negsuc n) h = absurd (omega arith)

pub not_positive : (z : ℤ) → P z ≤ N z → P z ≡ 0
not_positive (pos n) h = omega arith
not_positive (negsuc n) h = refl

-- an integer that is not negative is a natural number
pub natural : (z : ℤ) → N z ≤ P z → z ≡ pos (P z)
natural (pos n) h = refl
natural (negsuc n) h = absurd (omega arith)
