-- Quotients and remainders by a natural number above 0, rounded toward zero and rounded down, by their parts. Assumes nothing.
use Rattle.prelude.proofs.Logic.{◌≡◌, sym, ap, subst, ◌∙◌, ℕ, suc, ◌+◌, ◌*◌, ◌/◌, ◌%◌, ◌<◌, zero-mul, div-add-mod', mod-lt, arith, ℤ, pos}
use Rattle.prelude.proofs.Logic.{negsuc, neg_ℤ, quot_z, rem_z}
use Rattle.integers.specs.Parts.{P, N}
use Rattle.integers.specs.Quotients.{floor_quot, floor_rem}
use Rattle.integers.proofs.Sums.{flip}

-- toward zero, as Rust's `/` and `%`: x = q * k + r in each part
pub record Divided (x : ℤ) (k : ℕ) (q r : ℤ) : Type 0 where
  pub over : P q * k + P r ≡ P x
  pub under : N q * k + N r ≡ N x
  pub high : P r < k
  pub low : N r < k

pub divided : (x : ℤ) (k : ℕ) → 0 < k → Divided x k (quot_z x (pos k)) (rem_z x (pos k))
divided (pos n) k h = record { over = div-add-mod' n k; under = ap (λ (z : ℕ). z + 0) (zero-mul k); high = mod-lt n h; low = h }
divided (negsuc n) k h =
    let f = flip (pos (suc n / k)) in
    let g = flip (pos (suc n % k)) in
    record {
      over = ap (λ (z : ℕ). z * k + P (neg_ℤ (pos (suc n % k)))) f.over ∙ ap (λ (z : ℕ). 0 * k + z) g.over
          ∙ ap (λ (z : ℕ). z + 0) (zero-mul k);
      under = ap (λ (z : ℕ). z * k + N (neg_ℤ (pos (suc n % k)))) f.under ∙ ap (λ (z : ℕ). suc n / k * k + z) g.under
          ∙ div-add-mod' (suc n) k;
      high = subst (λ (z : ℕ). z < k) (sym g.over) h;
      low = subst (λ (z : ℕ). z < k) (sym g.under) (mod-lt (suc n) h);
    }

-- rounded down: x = q * k + r
pub record Floored (x : ℤ) (k : ℕ) (q : ℤ) (r : ℕ) : Type 0 where
  pub balance : P x + N q * k ≡ N x + (P q * k + r)
  pub below : r < k

pub floored : (x : ℤ) (k : ℕ) → 0 < k → Floored x k (floor_quot x k) (floor_rem x k)
floored (pos n) k h = let d = div-add-mod' n k in record { balance = omega arith; below = mod-lt n h }
floored (negsuc n) k h =
    let d = div-add-mod' n k in
    let m = mod-lt n h in
    record { balance = omega arith; below = omega arith }
