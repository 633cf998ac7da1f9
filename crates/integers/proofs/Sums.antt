-- Sums, differences, and products by a natural number, by their parts. Assumes nothing.
use Rattle.prelude.proofs.Logic.{◌≡◌, refl, sym, ◌∙◌, Bool, true, false, cond, ℕ, zero, suc, ◌+◌, ◌-◌, ◌*◌, ◌≤◌, zero-mul, arith, ltb}
use Rattle.prelude.proofs.Logic.{ℤ, pos, negsuc, neg_ℤ, sub_ℕ, ◌+ℤ◌, ◌-ℤ◌, ◌*ℤ◌, ltb-true, ltb-false}
use Rattle.integers.specs.Parts.{P, N}

-- s is x + y: the balance, and no part grows beyond the parts' sum
pub record Sum (x y s : ℤ) : Type 0 where
  pub balance : P s + (N x + N y) ≡ N s + (P x + P y)
  pub high : P s ≤ P x + P y
  pub low : N s ≤ N x + N y

-- a - b of two natural numbers
record Less (a b : ℕ) (d : ℤ) : Type 0 where
  balance : P d + b ≡ N d + a
  high : P d ≤ a
  low : N d ≤ b

less : (a b : ℕ) → Less a b (sub_ℕ a b)
less a b = by-test (ltb a b) refl
  where
    by-test : (t : Bool) → ltb a b ≡ t → Less a b (cond t (negsuc (b - suc a)) (pos (a - b)))
    by-test true h = let l = ltb-true a b h in record { balance = omega arith; high = omega arith; low = omega arith }
    by-test false h = let l = ltb-false a b h in record { balance = omega arith; high = omega arith; low = omega arith }

pub sum : (x y : ℤ) → Sum x y (x +ℤ y)
sum (pos a) (pos b) = record { balance = omega arith; high = omega arith; low = omega arith }
sum (pos a) (negsuc b) = let d = less a (suc b) in
    record { balance = omega arith; high = omega arith; low = omega arith }
sum (negsuc a) (pos b) = let d = less b (suc a) in
    record { balance = omega arith; high = omega arith; low = omega arith }
sum (negsuc a) (negsuc b) = record { balance = omega arith; high = omega arith; low = omega arith }

-- sums of equal summands
pub summands : {x y u v : ℤ} → x ≡ u → y ≡ v → x +ℤ y ≡ u +ℤ v
summands {x} {y} {u} {v} p q = cc

-- differences of equal numbers
pub differences : {x y u v : ℤ} → x ≡ u → y ≡ v → x -ℤ y ≡ u -ℤ v
differences {x} {y} {u} {v} p q = cc

-- y is -x
pub record Flip (x y : ℤ) : Type 0 where
  pub over : P y ≡ N x
  pub under : N y ≡ P x

pub flip : (x : ℤ) → Flip x (neg_ℤ x)
flip (pos zero) = record { over = refl; under = refl }
flip (pos (suc n)) = record { over = refl; under = refl }
flip (negsuc n) = record { over = refl; under = refl }

-- x - y is x + -y
pub difference : (x y : ℤ) → Sum x (neg_ℤ y) (x -ℤ y) × Flip y (neg_ℤ y)
difference x y = (sum x (neg_ℤ y), flip y)

-- y is x * k
pub record Times (x : ℤ) (k : ℕ) (y : ℤ) : Type 0 where
  pub over : P y ≡ P x * k
  pub under : N y ≡ N x * k

pub times : (x : ℤ) (k : ℕ) → Times x k (x *ℤ pos k)
times (pos n) k = record { over = refl; under = sym (zero-mul k) }
times (negsuc n) k = let f = flip (pos (suc n * k)) in record { over = f.over ∙ sym (zero-mul k); under = f.under }
