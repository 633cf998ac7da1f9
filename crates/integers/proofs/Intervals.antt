-- Integers from -a to b, and the bounds of sums, differences and products of them. Assumes nothing.
use Rattle.prelude.proofs.Logic.{◌≡◌, Bool, true, false, cond, ℕ, ◌+◌, ◌*◌, ◌≤◌, mul-le-mul_right, arith, ℤ, pos, negsuc, ◌+ℤ◌, ◌-ℤ◌, ◌*ℤ◌}
use Rattle.integers.specs.Parts.{P, N, Between}
use Rattle.integers.specs.Order.{◌≼◌}
use Rattle.integers.proofs.Sums.{sum, difference, times}

-- from the balance of z's parts alone
pub by_balance : (a b : ℕ) (z : ℤ) → N z ≤ P z + a → P z ≤ N z + b → Between a b z
by_balance a b (pos n) l h = record { from = omega arith; to = omega arith }
by_balance a b (negsuc n) l h = record { from = omega arith; to = omega arith }

pub wider : {a b c d : ℕ} {z : ℤ} → Between a b z → a ≤ c → b ≤ d → Between c d z
wider h l m = omega arith

pub natural_between : (n : ℕ) → Between 0 n (pos n)
natural_between n = omega arith

pub sum_between : {a b c d : ℕ} {x y : ℤ} → Between a b x → Between c d y → Between (a + c) (b + d) (x +ℤ y)
sum_between {a} {b} {c} {d} {x} {y} h k = let s = sum x y in record { from = omega arith; to = omega arith }

pub difference_between : {a b c d : ℕ} {x y : ℤ} → Between a b x → Between c d y → Between (a + d) (b + c) (x -ℤ y)
difference_between {a} {b} {c} {d} {x} {y} h k = let s = difference x y in
    record { from = omega arith; to = omega arith }

pub product_between : {a b : ℕ} {x : ℤ} → Between a b x → (k : ℕ) → Between (a * k) (b * k) (x *ℤ pos k)
product_between {a} {b} {x} h k =
    let t = times x k in
    record { from = omega (arith, mul-le-mul_right k h.from); to = omega (arith, mul-le-mul_right k h.to) }

pub either_between : {a b : ℕ} {x y : ℤ} (t : Bool) → Between a b x → Between a b y → Between a b (cond t x y)
either_between true h k = h
either_between false h k = k

-- an integer within k of one that is between -a and b
pub shifted_between : {a b : ℕ} {t : ℤ} (k : ℕ) (x : ℤ) → Between a b t → x ≼ t +ℤ pos k → t ≼ x +ℤ pos k → Between (a + k) (b + k) x
shifted_between {a} {b} {t} k x h u v = let s = sum t (pos k) in let r = sum x (pos k) in
    by_balance (a + k) (b + k) x (omega arith) (omega arith)

-- ---- w goes from 0 toward z, and no further
pub record Inside (w z : ℤ) : Type 0 where
  pub over : P w ≤ P z
  pub under : N w ≤ N z

pub inside_between : {a b : ℕ} {w z : ℤ} → Inside w z → Between a b z → Between a b w
inside_between i h = omega arith

-- so what goes from m toward f, and no further, is between them
pub toward_between : {a b : ℕ} (m f w : ℤ) → Between a b m → Between a b f → Inside w (f -ℤ m) → Between a b (m +ℤ w)
toward_between {a} {b} m f w h k i = let d = difference f m in by_sign (f -ℤ m) (omega arith) i.over i.under
  where
    by_sign : (d : ℤ) → P d + (N f + P m) ≡ N d + (P f + N m) → P w ≤ P d → N w ≤ N d → Between a b (m +ℤ w)
    by_sign (pos n) e l u = let s = sum m w in by_balance a b (m +ℤ w) (omega arith) (omega arith)
    by_sign (negsuc n) e l u = let s = sum m w in by_balance a b (m +ℤ w) (omega arith) (omega arith)
