-- A kernel's polynomial by Horner's rule, and the series that it approximates, both in the square z of the argument. Assumes nothing.
use Rattle.prelude.proofs.Logic.{◌≡◌, refl, ap, Bool, ◌&&◌, List, [], ◌∷◌, ℕ, suc, ◌+◌, ◌-◌, ◌*◌, ◌/◌, ◌^◌, ◌≤◌, ◌<◌, mul-pos}
use Rattle.prelude.proofs.Logic.{mul-le-mul_left, sub-add_cancel, one-le-pow, pow-succ', arith, T, length, pow_pos, and_l, and_r}
use Rattle.float64.proofs.Floats.{Float}
use Rattle.accuracy.proofs.Algebra.{ring, flat}
use Rattle.accuracy.proofs.Fractions.{Fraction, ◌⊞◌, ◌⊠◌, unit, Close, itself, same_close, through, Same, scaled, written, sum}
use Rattle.accuracy.proofs.{Fractions.times, Fractions.Sized, Rounding.value}
use Rattle.accuracy.proofs.Expressions.{Expr, const, ◌⊕◌, ◌⊗◌, exact}
use Rattle.accuracy.proofs.Forms.{poly, poly_sum, not_above, poly-le}
use Rattle.accuracy.proofs.Series.{Term, plus, rise, fall}

-- ---- a polynomial in z, with the coefficients u - d in parts of 1 / c
abbrev pub polynomial : {A : Type 0} → Fraction → (u d : A → ℕ) → (c : ℕ) → 0 < c → List A → Fraction
polynomial z u d c p l = record {
  more = poly z.more z.parts u l;
  less = poly z.more z.parts d l;
  parts = c * z.parts ^ length l;
  some = mul-pos p (one-le-pow (length l) z.parts z.some);
}

-- one more coefficient in front, k
pub in_front : {A : Type 0} (z : Fraction) → z.less ≡ 0 → (u d : A → ℕ) (c : ℕ) (p : 0 < c) (k : Fraction) (a : A) (l : List A)
    → k.more * c ≡ u a * k.parts → k.less * c ≡ d a * k.parts → Same (k ⊞ z ⊠ polynomial z u d c p l) (polynomial z u d c p (a ∷ l))
in_front z even u d c p k a l i j =
    scaled (k ⊞ z ⊠ polynomial z u d c p l) (polynomial z u d c p (a ∷ l)) k.parts
    (side k.more (u a) (poly z.more z.parts u l) (poly z.more z.parts d l) (length l) i)
    (side k.less (d a) (poly z.more z.parts d l) (poly z.more z.parts u l) (length l) j)
    (whole (length l))
  where
    side : (b e P N n : ℕ) → b * c ≡ e * k.parts
        → b * (z.parts * (c * z.parts ^ n)) + (z.more * P + z.less * N) * k.parts ≡ (e * z.parts ^ suc n + z.more * P) * k.parts
    side b e P N n h =
        rw (even, pow-succ' z.parts n) (simp flat (omega (arith, simp ring at (ap (λ (m : ℕ). z.parts * z.parts ^ n * m) h))))

    whole : (n : ℕ) → k.parts * (z.parts * (c * z.parts ^ n)) ≡ c * z.parts ^ suc n * k.parts
    whole n = rw (pow-succ' z.parts n) (simp ring)

-- ---- the kernel's coefficients, each as a number of parts of 2 ^ -90: k + z * (j + z * ..)
abbrev scale : ℕ
scale = 2 ^ 90

abbrev pub per : Float → Fraction
per k = record {
  more = (value k).more * scale / (value k).parts;
  less = (value k).less * scale / (value k).parts;
  parts = scale;
  some = pow_pos 90;
}

abbrev pub horner : {A : Type 0} → Expr A → Float → List Float → Expr A
horner z k [] = const k (per k)
horner z k (j ∷ l) = const k (per k) ⊕ z ⊗ horner z j l

-- each with the series' coefficient; 0 if the kernel has no more
pub data Row : Type 0 where
  row : (up down : ℕ) → Term → Row

abbrev up : Row → ℕ
up (row u d t) = u

abbrev down : Row → ℕ
down (row u d t) = d

abbrev pub added : Row → ℕ
added (row u d t) = rise t

abbrev pub taken : Row → ℕ
taken (row u d t) = fall t

abbrev first : List Term → Term
first [] = plus 0
first (t ∷ l) = t

abbrev rest : List Term → List Term
rest [] = []
rest (t ∷ l) = l

abbrev pub rows : List Float → List Term → List Row
rows [] [] = []
rows [] (t ∷ l) = row 0 0 t ∷ rows [] l
rows (k ∷ l) ts = row (per k).more (per k).less (first ts) ∷ rows l (rest ts)

abbrev kernel : Fraction → List Row → Fraction
kernel z l = polynomial z up down scale (pow_pos 90) l

no_more : (y w : ℕ) (l : List Term) → (poly y w up (rows [] l) ≡ 0) × (poly y w down (rows [] l) ≡ 0)
no_more y w [] = (refl, refl)
no_more y w (t ∷ l) = let h = no_more y w l in (rw h.0 (omega arith), rw h.1 (omega arith))

-- ---- Horner's rule without rounding gives the kernel's polynomial
horner_is : {A : Type 0} (f : A → Fraction) (z : Expr A) {S : ℕ} → Sized (exact f z) S → (exact f z).less ≡ 0
    → (k : Float) (l : List Float) (ts : List Term) → Close (exact f (horner z k l)) (kernel (exact f z) (rows (k ∷ l) ts)) 0
horner_is f z s even k [] ts =
    let n = no_more (exact f z).more (exact f z).parts (rest ts) in
    same_close (record { balance = rw (n.0, n.1) (simp flat (omega arith)) })
horner_is f z s even k (j ∷ l) ts =
    let r = rows (j ∷ l) (rest ts) in
    let t : Close (exact f z ⊠ exact f (horner z j l)) (exact f z ⊠ kernel (exact f z) r) 0 =
    times s (horner_is f z s even j l (rest ts)) (omega arith) in
    written (sum (itself (per k)) t)
    (in_front (exact f z) even up down scale (pow_pos 90) (per k) (row (per k).more (per k).less (first ts)) r refl refl)

-- ---- how far it is from the series
scale_is : scale ≡ unit * 2 ^ 26
unfolding unit
scale_is = refl

-- u / scale + t / n is nowhere more than E units above d / scale + a / n
abbrev one_side : ℕ → (u t d a : Row → ℕ) → List Row → ℕ → Bool
one_side n u t d a l E = not_above (λ r. u r * n + t r * scale) (λ r. d r * n + a r * scale) (E * 2 ^ 26 * n) l

abbrev pub near : ℕ → List Row → ℕ → Bool
near n l E = one_side n up taken down added l E && one_side n down added up taken l E

weighed : (A B C D E U K N M P : ℕ) → K ≡ U * M → A * N + B * K ≤ C * N + D * K + E * M * N * P
    → U * (A * (N * P) + B * (K * P)) ≤ U * (C * (N * P) + D * (K * P)) + E * (K * P * (N * P))
weighed A B C D E U K N M P k h =
    simp ring (omega (arith, simp ring at (mul-le-mul_left (U * P) h), simp ring at (ap (λ (z : ℕ). E * P * N * P * z) k)))

other_way : (U a b c d e f E : ℕ) → U * (a + b) ≤ U * (c + d) + E * (e * f) → U * (b + a) ≤ U * (d + c) + E * (f * e)
other_way U a b c d e f E h = omega arith

module _ (z : Fraction) (small : 16 * z.more ≤ 9 * z.parts) (n : ℕ) (p : 0 < n) (l : List Row) (E : ℕ) where
  abbrev at : (Row → ℕ) → ℕ
  at f = poly z.more z.parts f l

  abbrev power : ℕ
  power = z.parts ^ length l

  one_way : (u t d a : Row → ℕ) → T (one_side n u t d a l E)
      → unit * (at u * (n * power) + at t * (scale * power)) ≤ unit * (at d * (n * power) + at a * (scale * power))
      + E * (scale * power * (n * power))
  one_way u t d a h =
      let y = z.more in
      let w = z.parts in
      weighed (at u) (at t) (at d) (at a) E unit scale n (2 ^ 26) power scale_is
      (rw (poly_sum y w u t n scale l, poly_sum y w d a n scale l) at
      (poly-le y w (9 * w - 16 * y) (sub-add_cancel small) _ _ (E * 2 ^ 26 * n) l h))

  kernel-near : T (near n l E) → Close (kernel z l) (polynomial z added taken n p l) E
  kernel-near t =
      let b = one_side n up taken down added l E in
      let c = one_side n down added up taken l E in
      record {
        upper = one_way up taken down added (and_l b c t);
        lower = other_way unit _ _ _ _ _ _ E (one_way down added up taken (and_r b c t));
      }

pub horner_near : {A : Type 0} (f : A → Fraction) (z : Expr A) {S : ℕ} → Sized (exact f z) S → (exact f z).less ≡ 0
    → 16 * (exact f z).more ≤ 9 * (exact f z).parts
    → (k : Float) (l : List Float) (ts : List Term) (n : ℕ) (p : 0 < n) (E : ℕ) → T (near n (rows (k ∷ l) ts) E)
    → Close (exact f (horner z k l)) (polynomial (exact f z) added taken n p (rows (k ∷ l) ts)) (0 + E)
horner_near f z s even small k l ts n p E t =
    through (horner_is f z s even k l ts) (kernel-near (exact f z) small n p (rows (k ∷ l) ts) E t)
