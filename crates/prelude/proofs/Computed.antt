-- A rule for each number below n, proved by one test that antt computes. Assumes nothing.
use Rattle.prelude.proofs.Logic.{◌≡◌, subst, sym, Bool, true, false, not, ◌&&◌, ◌||◌, ⊎_elim, ℕ, zero, suc, ◌<◌, eq-or-lt_of_le}
use Rattle.prelude.proofs.Logic.{le_of_suc-le-suc, not-suc-le-zero, T, and_l, and_r}

-- the test f passes at each number below n
abbrev pub below : (ℕ → Bool) → ℕ → Bool
below f zero = true
below f (suc n) = f n && below f n

pub at : (f : ℕ → Bool) (n : ℕ) → T (below f n) → (k : ℕ) → k < n → T (f k)
at f zero t k h = absurd (not-suc-le-zero h)
at f (suc n) t k h =
    ⊎_elim (λ (e : k ≡ n). subst (λ (j : ℕ). T (f j)) (sym e) (and_l (f n) (below f n) t))
    (λ (l : k < n). at f n (and_r (f n) (below f n) t) k l)
    (eq-or-lt_of_le (le_of_suc-le-suc h))

-- a test at each number below n, for both truth values
pub tested : (f : Bool → ℕ → Bool) (n : ℕ) → T (below (f true) n && below (f false) n) → (b : Bool) (k : ℕ) → k < n → T (f b k)
tested f n t true k h = at (f true) n (and_l (below (f true) n) (below (f false) n) t) k h
tested f n t false k h = at (f false) n (and_r (below (f true) n) (below (f false) n) t) k h

-- a test that need pass only if another one does
pub when : (a b : Bool) → T (not a || b) → T a → T b
when true b t h = t
when false b t h = absurd h
