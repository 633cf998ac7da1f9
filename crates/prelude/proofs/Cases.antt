-- Proof by the two cases of a truth value, and what is known of a number after all arms of a `match`. Assumes nothing.
use mathlib.Core.Path.{◌≡◌, refl}
use mathlib.Core.Bool.{Bool, true, false, cond, ◌&&◌, and-eq-true_iff}
use Prim.Native.Nat.{ℕ, zero, suc, ◌+◌, ◌≤◌}
use native.Mathlib.Omega.{arith}

-- X holds in both cases, so it holds
pub cases : {X : Type 0} (t : Bool) → (t ≡ true → X) → (t ≡ false → X) → X
cases true f g = f refl
cases false f g = g refl

-- a property of `cond t x y`, proved for each arm
pub arms : {A : Type 0} (P : A → Type 0) (t : Bool) {x y : A} → (t ≡ true → P x) → (t ≡ false → P y) → P (cond t x y)
arms P true f g = f refl
arms P false f g = g refl

-- the same, if both arms have the property without the test
pub either : {A : Type 0} (Q : A → Type 0) (t : Bool) {x y : A} → Q x → Q y → Q (cond t x y)
either Q t p q = arms Q t (λ e. p) (λ e. q)

pub both : (a b : Bool) → (a && b) ≡ true → (a ≡ true) × (b ≡ true)
both a b e = (and-eq-true_iff a b).0 e

-- x is none of the n numbers from `low` on: this is known of x after the arms of a `match`
abbrev pub Others : ℕ → ℕ → ℕ → Type 0
Others x low zero = Unit
Others x low (suc n) = Others x low n × (x ≡ low + n → ⊥)

pub beyond : (x low n : ℕ) → low ≤ x → Others x low n → low + n ≤ x
beyond x low zero h o = omega arith
beyond x low (suc n) h o = let l = beyond x low n h o.0 in let d = o.1 in omega arith
