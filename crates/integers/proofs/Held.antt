-- Signed sums as the machine computes them. `Held n z w`: the machine's z is w, and w is from -n to n. For sums up to 2 ^ 62 the laws here
-- prove that an i64 holds the sum, that the same number is read back, and what a contract promises. Assumes nothing.
use Rattle.prelude.proofs.Logic.{◌≡◌, refl, sym, subst, ap, ◌∙◌, ℕ, ◌+◌, ◌*◌, ◌^◌, ◌≤◌, arith, ℤ, pos, ◌+ℤ◌, ◌-ℤ◌, ◌*ℤ◌, w32, w64, SFits}
use Rattle.integers.specs.Parts.{Near}
use Rattle.integers.proofs.Sums.{summands, differences}
use Rattle.integers.proofs.Ranges.{range, fits, read_back, read, read_wide}
use Rattle.integers.proofs.Intervals.{wider, sum_between, difference_between, product_between}

pub record Held (n : ℕ) (z w : ℤ) : Type 0 where
  pub is : z ≡ w
  pub near : Near n w

-- ---- what comes in
pub constant : (n : ℕ) → Held n (pos n) (pos n)
constant n = record { is = refl; near = record { from = omega arith; to = omega arith } }

i32_near : (z : ℤ) → SFits w32 z → Near (2 ^ 31) z
i32_near z h = let r = range w32 z h in record { from = omega arith; to = omega arith }

-- an i32, cast to an i64
pub of_wide : (z : ℤ) → SFits w32 z → Held (2 ^ 31) (read_back w64 (read_back w32 z)) z
of_wide z h = record { is = read_wide z h; near = i32_near z h }

-- an i64 whose contract bounds it
pub of_i64 : {n : ℕ} (z : ℤ) → SFits w64 z → Near n z → Held n (read_back w64 z) z
of_i64 z h k = record { is = read w64 z h; near = k }

-- a call's result, from a contract that gives its value alone
pub held_by : {n : ℕ} {x z w : ℤ} → x ≡ z → Held n z w → Held n x w
held_by e h = search

-- ---- what is computed
pub held_sum : {m n : ℕ} {x y u v : ℤ} → Held m x u → Held n y v → Held (m + n) (x +ℤ y) (u +ℤ v)
held_sum h k = record { is = summands h.is k.is; near = sum_between h.near k.near }

pub held_difference : {m n : ℕ} {x y u v : ℤ} → Held m x u → Held n y v → Held (m + n) (x -ℤ y) (u -ℤ v)
held_difference h k = record { is = differences h.is k.is; near = difference_between h.near k.near }

pub held_product : {n : ℕ} {x u : ℤ} → Held n x u → (k : ℕ) → Held (n * k) (x *ℤ pos k) (u *ℤ pos k)
held_product h k = record { is = ap (λ (z : ℤ). z *ℤ pos k) h.is; near = product_between h.near k }

pub held_as : {n : ℕ} {z w v : ℤ} → Held n z w → w ≡ v → Held n z v
held_as {n} h e = record { is = h.is ∙ e; near = subst (Near n) e h.near }

-- ---- what comes out: an i64 holds it, the same number is read back, and it is what the contract promises
pub held_fits : {n : ℕ} {z w : ℤ} → Held n z w → n ≤ 2 ^ 62 → SFits w64 z
held_fits {n} {z} {w} h l = subst (SFits w64) (sym h.is) (fits w64 w (omega arith) (omega arith))

pub stored : {n : ℕ} {z w : ℤ} → Held n z w → n ≤ 2 ^ 62 → Held n (read_back w64 z) w
stored {n} {z} {w} h l = record { is = read w64 z (held_fits h l) ∙ h.is; near = h.near }

pub asked : {n k : ℕ} {z w : ℤ} → Held n z w → n ≤ k → Near k z
asked {n} {k} h l = subst (Near k) (sym h.is) (wider h.near l l)

pub promised : {n k : ℕ} {z w : ℤ} → Held n z w → n ≤ k → (z ≡ w) × Near k z
promised h l = (h.is, asked h l)
