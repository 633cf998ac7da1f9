-- Polynomials in y / w with natural coefficients, compared for y / w from 0 to 9 / 16. With u = 9 w - 16 y, which is at least 0, both are
-- sums of products of y and u. If no coefficient of the first is above the second's, the first is not above the second. Assumes nothing.
use Rattle.prelude.proofs.Logic.{◌≡◌, ◌∙◌, Bool, true, ◌&&◌, List, [], ◌∷◌, ℕ, zero, suc, ◌+◌, ◌*◌, ◌^◌, ◌≤◌, add-le-add, mul-pos}
use Rattle.prelude.proofs.Logic.{mul-le-mul_right, mul-le-mul_left, le_of_mul-le-mul_right, one-le-pow, pow-zero, pow-succ', arith, T, leb}
use Rattle.prelude.proofs.Logic.{leb→le, lit<, length, and_l, and_r}
use Rattle.accuracy.proofs.Algebra.{ring, flat, mul_pow}

-- ---- the polynomial with the coefficients that f picks, times w ^ n for n of them
abbrev pub poly : {A : Type 0} → (y w : ℕ) → (A → ℕ) → List A → ℕ
poly y w f [] = 0
poly y w f (a ∷ l) = f a * w ^ length (a ∷ l) + y * poly y w f l

pub poly_sum : {A : Type 0} (y w : ℕ) (f g : A → ℕ) (a b : ℕ) (l : List A)
    → poly y w (λ r. f r * a + g r * b) l ≡ poly y w f l * a + poly y w g l * b
poly_sum y w f g a b [] = omega arith
poly_sum y w f g a b (r ∷ l) = rw (poly_sum y w f g a b l) (regroup (f r) (g r) (w ^ length (r ∷ l)) (poly y w f l) (poly y w g l))
  where
    regroup : (c d P F G : ℕ) → (c * a + d * b) * P + y * (F * a + G * b) ≡ (c * P + y * F) * a + (d * P + y * G) * b
    regroup c d P F G = simp ring (omega arith)

-- ---- forms: sums of products of n - 1 factors y and u, the coefficient of u ^ (n - 1) first
pub data Form : ℕ → Type 0 where
  none : Form zero
  ◌▸◌ : {n : ℕ} → ℕ → Form n → Form (suc n)

infixr 50 ◌▸◌
-- f times 9 w = u + 16 y; p is the coefficient before f's first
abbrev times9w : {n : ℕ} → ℕ → Form n → Form (suc n)
times9w p none = 16 * p ▸ none
times9w p (c ▸ f) = (c + 16 * p) ▸ times9w c f

-- (9 w) ^ n
abbrev power9w : (n : ℕ) → Form (suc n)
power9w zero = 1 ▸ none
power9w (suc n) = times9w 0 (power9w n)

-- k f + 9 g
abbrev mix : {n : ℕ} → ℕ → Form n → Form n → Form n
mix k none none = none
mix k (b ▸ f) (c ▸ g) = (k * b + 9 * c) ▸ mix k f g

-- k f + 9 y g
abbrev mixed : {n : ℕ} → ℕ → Form (suc n) → Form n → Form (suc n)
mixed k (b ▸ f) g = k * b ▸ mix k f g

-- 9 ^ n times the polynomial
abbrev form : {A : Type 0} → (A → ℕ) → (l : List A) → Form (suc (length l))
form f [] = 0 ▸ none
form f (a ∷ l) = mixed (f a) (power9w (suc (length l))) (form f l)

abbrev under : {n : ℕ} → Form n → Form n → Bool
under none none = true
under (b ▸ f) (c ▸ g) = leb b c && under f g

-- f's polynomial is nowhere above g's plus d
abbrev pub not_above : {A : Type 0} → (f g : A → ℕ) → ℕ → List A → Bool
not_above f g d l = under (mix 0 (power9w (length l)) (form f l)) (mix (9 * d) (power9w (length l)) (form g l))

-- ---- their values
module _ (y u : ℕ) where
  abbrev at : {n : ℕ} → Form n → ℕ
  at none = 0
  at {n = suc n} (c ▸ f) = c * u ^ n + y * at f

  times9w-at : {n : ℕ} (p : ℕ) (f : Form n) → at (times9w p f) ≡ (u + 16 * y) * at f + 16 * p * u ^ n
  times9w-at p none = simp (flat, pow-zero)
  times9w-at {n = suc n} p (c ▸ f) = rw (times9w-at c f, pow-succ' u n) (regroup (u ^ n) (at f))
    where
      regroup : (P F : ℕ) → (c + 16 * p) * (u * P) + y * ((u + 16 * y) * F + 16 * c * P) ≡ (u + 16 * y) * (c * P + y * F) + 16 * p * (u * P)
      regroup P F = simp ring (omega arith)

  power9w-at : (n : ℕ) → at (power9w n) ≡ (u + 16 * y) ^ n
  power9w-at zero = simp (flat, pow-zero)
  power9w-at (suc n) = times9w-at 0 (power9w n) ∙ rw (power9w-at n, pow-succ' (u + 16 * y) n) (omega arith)

  mix-at : {n : ℕ} (k : ℕ) (f g : Form n) → at (mix k f g) ≡ k * at f + 9 * at g
  mix-at k none none = omega arith
  mix-at {n = suc n} k (b ▸ f) (c ▸ g) = rw (mix-at k f g) (regroup (u ^ n) (at f) (at g))
    where
      regroup : (P F G : ℕ) → (k * b + 9 * c) * P + y * (k * F + 9 * G) ≡ k * (b * P + y * F) + 9 * (c * P + y * G)
      regroup P F G = simp ring (omega arith)

  mixed-at : {n : ℕ} (k : ℕ) (f : Form (suc n)) (g : Form n) → at (mixed k f g) ≡ k * at f + 9 * (y * at g)
  mixed-at {n} k (b ▸ f) g = rw (mix-at k f g) (regroup (u ^ n) (at f) (at g))
    where
      regroup : (P F G : ℕ) → k * b * P + y * (k * F + 9 * G) ≡ k * (b * P + y * F) + 9 * (y * G)
      regroup P F G = simp ring (omega arith)

  under_at : {n : ℕ} (f g : Form n) → T (under f g) → at f ≤ at g
  under_at none none t = omega arith
  under_at {n = suc n} (b ▸ f) (c ▸ g) t =
      add-le-add (mul-le-mul_right (u ^ n) (leb→le b c (and_l (leb b c) (under f g) t)))
      (mul-le-mul_left y (under_at f g (and_r (leb b c) (under f g) t)))

module _ {A : Type 0} (y w u : ℕ) (e : u + 16 * y ≡ 9 * w) where
  form-at : (f : A → ℕ) (l : List A) → at y u (form f l) ≡ 9 ^ length l * poly y w f l
  form-at f [] = simp (flat, pow-zero)
  form-at f (a ∷ l) =
      let n = length l in
      mixed-at y u (f a) (power9w (suc n)) (form f l)
      ∙ rw (power9w-at y u (suc n), form-at f l, e, mul_pow 9 w (suc n), pow-succ' 9 n) (regroup (9 ^ n) (w ^ suc n) (poly y w f l))
    where
      regroup : (N W P : ℕ) → f a * (9 * N * W) + 9 * (y * (N * P)) ≡ 9 * N * (f a * W + y * P)
      regroup N W P = simp ring (omega arith)

  pub poly-le : (f g : A → ℕ) (d : ℕ) (l : List A) → T (not_above f g d l) → poly y w f l ≤ poly y w g l + d * w ^ length l
  poly-le f g d l t =
      let n = length l in
      let h = rw (
        mix-at y u 0 (power9w n) (form f l),
        mix-at y u (9 * d) (power9w n) (form g l),
        power9w-at y u n,
        form-at f l,
        form-at g l,
        e,
        mul_pow 9 w n,
      ) at
      (under_at y u (mix 0 (power9w n) (form f l)) (mix (9 * d) (power9w n) (form g l)) t) in
      le_of_mul-le-mul_right {k = 9 ^ n * 9} (simp ring (omega (arith, simp ring at h))) (mul-pos (one-le-pow n 9 (lit< tt)) (lit< tt))
