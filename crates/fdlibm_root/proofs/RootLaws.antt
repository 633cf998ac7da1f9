-- `whole_root n` is the whole part of n's square root, and a number has only one.
use Rattle.prelude.proofs.Logic.{◌≡◌, refl, Bool, true, false, cond, ℕ, zero, suc, ◌+◌, ◌*◌, ◌/◌, ◌^◌, ◌≤◌, ◌<◌}
use Rattle.prelude.proofs.Logic.{lt_of_lt_of_le, mul-le-mul, pow-suc, pow-le-pow_left, arith, leb, lit≤, leb-true, leb-false}
use Rattle.prelude.proofs.Ieee.{size, size-lt}
use Rattle.fdlibm_root.specs.Root.{Root, digits, whole_root}

next_digit : (n r : ℕ) (b : Bool) → leb ((r + 1) * (r + 1)) n ≡ b → r * r ≤ n → n < (r + 2) * (r + 2) → Root n (cond b (r + 1) r)
next_digit n r true e lo hi = record { within = leb-true ((r + 1) * (r + 1)) n e; above = omega arith }
next_digit n r false e lo hi = record { within = lo; above = leb-false ((r + 1) * (r + 1)) n e }

digits_root : (k n : ℕ) → n < 4 ^ k → Root n (digits k n)
unfolding digits
digits_root zero n h = record { within = omega arith; above = omega arith }
digits_root (suc k) n h =
    let s = digits k (n / 4) in let small : n / 4 < 4 ^ k = omega (arith, pow-suc 4 k) in
    let before = digits_root k (n / 4) small in let lo : 2 * s * (2 * s) ≤ n = omega (arith, before.within) in
    let hi : n < (2 * s + 2) * (2 * s + 2) = omega (arith, before.above) in
    next_digit n (2 * s) (leb ((2 * s + 1) * (2 * s + 1)) n) refl lo hi

pub whole_root_lem : (n : ℕ) → Root n (whole_root n)
unfolding whole_root
whole_root_lem n = digits_root (size n) n (lt_of_lt_of_le (size-lt n) (pow-le-pow_left (lit≤ tt) (size n)))

-- a smaller square has a smaller root
pub smaller : (a b : ℕ) → a * a < b * b → a < b
smaller a b h = omega (arith, no_less)
  where
    no_less : b ≤ a → ⊥
    no_less g = let squares : b * b ≤ a * a = mul-le-mul g g in omega arith
