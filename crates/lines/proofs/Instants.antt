-- The sign of a time's days, in the machine's numbers. Assumes nothing.
use Rattle.prelude.proofs.Logic.{◌≡◌, refl, true, false, arith, ℤ, pos, negsuc, lt_z}
use Rattle.integers.proofs.Integers.{lt_yes, lt_no}
use Rattle.lines.specs.Lines.{sign_of}

pub minus : (z : ℤ) → lt_z z (pos 0) ≡ true → 45 ≡ sign_of z
minus (pos n) h = absurd (omega (arith, lt_yes (pos n) (pos 0) h))
minus (negsuc n) h = refl

pub plus : (z : ℤ) → lt_z z (pos 0) ≡ false → 43 ≡ sign_of z
plus (pos n) h = refl
plus (negsuc n) h = absurd (omega (arith, lt_no (negsuc n) (pos 0) h))
