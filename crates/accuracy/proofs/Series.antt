-- The statement's sums as polynomials: the terms of the powers k, k + 2, .. n of a / d, in y = a a and w = d d. Assumes nothing.
use Rattle.prelude.proofs.Logic.{◌≡◌, refl, ap, Bool, true, false, not, cond, List, [], ◌∷◌, ℕ, zero, suc, ◌+◌, ◌-◌, ◌*◌, ◌/◌, ◌^◌}
use Rattle.prelude.proofs.Logic.{pow-succ', arith, length}
use Rattle.accuracy.specs.Accuracy.{◌! }
use Rattle.accuracy.proofs.{Algebra.ring, Algebra.square_power, Forms.poly}

-- ---- coefficients with their signs
pub data Term : Type 0 where
  plus minus : ℕ → Term

abbrev pub rise : Term → ℕ
rise (plus n) = n
rise (minus n) = 0

abbrev pub fall : Term → ℕ
fall (plus n) = 0
fall (minus n) = n

-- the powers k, k + 2, .., m of them
abbrev pub from : ℕ → ℕ → List ℕ
from k zero = []
from k (suc m) = k ∷ from (suc (suc k)) m

-- n! / k! for each, with alternating signs; the first one is subtracted if b
abbrev pub terms : ℕ → Bool → List ℕ → List Term
terms n b [] = []
terms n b (k ∷ l) = cond b (minus (n ! / k !)) (plus (n ! / k !)) ∷ terms n (not b) l

from_length : (k m : ℕ) → length (from k m) ≡ m
from_length k zero = refl
from_length k (suc m) = ap suc (from_length (suc (suc k)) m)

terms_length : (n : ℕ) (b : Bool) (l : List ℕ) → length (terms n b l) ≡ length l
terms_length n b [] = refl
terms_length n b (k ∷ l) = ap suc (terms_length n (not b) l)

-- what is subtracted is what is added if the signs are swapped
pub fall_is : (y w n : ℕ) (b : Bool) (l : List ℕ) → poly y w fall (terms n b l) ≡ poly y w rise (terms n (not b) l)
fall_is y w n b [] = refl
fall_is y w n true (k ∷ l) = rw (terms_length n true l, terms_length n false l, fall_is y w n false l)
fall_is y w n false (k ∷ l) = rw (terms_length n true l, terms_length n false l, fall_is y w n true l)

-- ---- the terms themselves
module _ (n a d : ℕ) where
  abbrev pub amount : ℕ → ℕ
  amount k = a ^ k * (n ! / k ! * d ^ (n - k))

  -- those that are added, or those that are subtracted if b
  abbrev pub side : Bool → List ℕ → ℕ
  side b [] = 0
  side b (k ∷ l) = cond b 0 (amount k) + side (not b) l

  -- up to the power n, with the factor a ^ k taken out
  pub side-is : (y : ℕ) → y ≡ a * a → (b : Bool) (m k : ℕ) → k + (m + m) ≡ suc (suc n)
      → side b (from k m) * (d * d) ≡ a ^ k * poly y (d * d) rise (terms n b (from k m))
  side-is y Y b zero k e = omega arith
  side-is y Y b (suc m) k e =
      let i : n - k ≡ m + m = omega arith in
      let l = from (suc (suc k)) m in
      rw (i, square_power d m, terms_length n (not b) l, from_length (suc (suc k)) m, pow-succ' (d * d) m)
      (by_sign b (side (not b) l) (poly y (d * d) rise (terms n (not b) l))
      (rw (pow-succ' a (suc k), pow-succ' a k) at (side-is y Y (not b) m (suc (suc k)) (omega arith))))
    where
      by_sign : (b : Bool) (S R : ℕ) → S * (d * d) ≡ a * (a * a ^ k) * R
          → (cond b 0 (a ^ k * (n ! / k ! * (d * d) ^ m)) + S) * (d * d)
          ≡ a ^ k * (rise (cond b (minus (n ! / k !)) (plus (n ! / k !))) * (d * d * (d * d) ^ m) + y * R)
      by_sign true S R p = rw Y (simp ring (omega (arith, simp ring at p)))
      by_sign false S R p = rw Y (simp ring (omega (arith, simp ring at p)))
