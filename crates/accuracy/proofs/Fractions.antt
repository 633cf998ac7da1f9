-- Signed fractions over natural numbers: their sums and products, how far two of them are apart, and how large one is. Nothing here is
-- about floats. Assumes nothing.
use Rattle.prelude.proofs.Logic.{◌≡◌, ap, Bool, true, false, not, ℕ, ◌+◌, ◌-◌, ◌*◌, ◌^◌, ◌≤◌, ◌<◌, add_comm, add-zero, zero-add, le_of_lt}
use Rattle.prelude.proofs.Logic.{add-sub_of_le, mul_comm, mul-pos, mul-le-mul_right, le_of_mul-le-mul_right, arith, T, ltb, ltb→lt, nltb→le}
use Rattle.prelude.proofs.Logic.{lit<, pow_pos}
use Rattle.accuracy.proofs.Algebra.{ring, flat}

-- the number (more - less) / parts
pub record Fraction : Type 0 where
  pub more : ℕ
  pub less : ℕ
  pub parts : ℕ
  pub some : 0 < parts

infixl 60 ◌⊞◌
infixl 70 ◌⊠◌
infixl 80 ⊟◌
abbrev pub ◌⊞◌ : Fraction → Fraction → Fraction
f ⊞ g = record {
  more = f.more * g.parts + g.more * f.parts;
  less = f.less * g.parts + g.less * f.parts;
  parts = f.parts * g.parts;
  some = mul-pos f.some g.some;
}

abbrev pub ◌⊠◌ : Fraction → Fraction → Fraction
f ⊠ g = record {
  more = f.more * g.more + f.less * g.less;
  less = f.more * g.less + f.less * g.more;
  parts = f.parts * g.parts;
  some = mul-pos f.some g.some;
}

abbrev pub ⊟◌ : Fraction → Fraction
⊟ f = record { more = f.less; less = f.more; parts = f.parts; some = f.some }

abbrev pub nought : Fraction
nought = record { more = 0; less = 0; parts = 1; some = lit< tt }

abbrev pub unity : Fraction
unity = record { more = 1; less = 0; parts = 1; some = lit< tt }

-- ---- how far apart two are, in units of 2 ^ -64
unfoldable pub unit : ℕ
unit = 2 ^ 64

pub unit_pos : 0 < unit
unfolding unit
unit_pos = pow_pos 64

-- f is at most g plus E units
abbrev AtMost : Fraction → Fraction → ℕ → Type 0
AtMost f g E =
    unit * (f.more * g.parts + g.less * f.parts) ≤ unit * (f.less * g.parts + g.more * f.parts) + E * (f.parts * g.parts)

-- f and g are at most E units apart
pub record Close (f g : Fraction) (E : ℕ) : Type 0 where
  pub upper : AtMost f g E
  pub lower : AtMost g f E

pub turned : {f g : Fraction} {E : ℕ} → Close f g E → Close g f E
turned h = record { upper = h.lower; lower = h.upper }

at_most_looser : (f g : Fraction) (E F : ℕ) → E ≤ F → AtMost f g E → AtMost f g F
at_most_looser f g E F l h = omega (arith, mul-le-mul_right (f.parts * g.parts) l)

pub looser : {f g : Fraction} {E F : ℕ} → E ≤ F → Close f g E → Close f g F
looser {f} {g} {E} {F} l h = record { upper = at_most_looser f g E F l h.upper; lower = at_most_looser g f E F l h.lower }

at_most_through : (f g h : Fraction) (E F : ℕ) → AtMost f g E → AtMost g h F → AtMost f h (E + F)
at_most_through f g h E F p q =
    le_of_mul-le-mul_right {k = g.parts}
    (simp ring (omega (arith, simp ring at (mul-le-mul_right h.parts p), simp ring at (mul-le-mul_right f.parts q)))) g.some

pub through : {f g h : Fraction} {E F : ℕ} → Close f g E → Close g h F → Close f h (E + F)
through {f} {g} {h} {E} {F} p q = record {
  upper = at_most_through f g h E F p.upper q.upper;
  lower = rw (add_comm E F) (at_most_through h g f F E q.lower p.lower);
}

-- ---- the same number, written in two ways
pub record Same (f g : Fraction) : Type 0 where
  pub balance : f.more * g.parts + g.less * f.parts ≡ f.less * g.parts + g.more * f.parts

-- each of f's three numbers is k times g's
pub scaled : (f g : Fraction) (k : ℕ) → f.more ≡ g.more * k → f.less ≡ g.less * k → f.parts ≡ g.parts * k → Same f g
scaled f g k e i p = record { balance = rw (e, i, p) (simp ring (omega arith)) }

pub same_close : {f g : Fraction} → Same f g → Close f g 0
same_close {f} {g} s =
    record { upper = omega (arith, ap (λ (z : ℕ). unit * z) s.balance); lower = omega (arith, ap (λ (z : ℕ). unit * z) s.balance) }

pub itself : (f : Fraction) → Close f f 0
itself f = same_close (record { balance = omega arith })

pub written : {f g h : Fraction} {E : ℕ} → Close f g E → Same g h → Close f h E
written {f} {g} {h} {E} p s = rw (add-zero E) at (through p (same_close s))

-- ---- sums
at_most_sum : (f g h k : Fraction) (E F : ℕ) → AtMost f g E → AtMost h k F → AtMost (f ⊞ h) (g ⊞ k) (E + F)
at_most_sum f g h k E F p q = simp ring
    (omega (arith, simp ring at (mul-le-mul_right (h.parts * k.parts) p), simp ring at (mul-le-mul_right (f.parts * g.parts) q)))

pub sum : {f g h k : Fraction} {E F : ℕ} → Close f g E → Close h k F → Close (f ⊞ h) (g ⊞ k) (E + F)
sum {f} {g} {h} {k} {E} {F} p q =
    record { upper = at_most_sum f g h k E F p.upper q.upper; lower = at_most_sum g f k h E F p.lower q.lower }

at_most_flip : (f g : Fraction) (E : ℕ) → AtMost g f E → AtMost (⊟ f) (⊟ g) E
at_most_flip f g E p = omega (arith, mul_comm f.parts g.parts)

pub flip : {f g : Fraction} {E : ℕ} → Close f g E → Close (⊟ f) (⊟ g) E
flip {f} {g} {E} p = record { upper = at_most_flip f g E p.lower; lower = at_most_flip g f E p.upper }

-- ---- sizes: how far f is from nought
abbrev pub Sized : Fraction → ℕ → Type 0
Sized f S = Close f nought S

pub sized_sum : {f g : Fraction} {S R : ℕ} → Sized f S → Sized g R → Sized (f ⊞ g) (S + R)
sized_sum p q = let c = sum p q in record { upper = c.upper; lower = c.lower }

-- to add g moves f by at most g's size
pub beside : (f : Fraction) {g : Fraction} {S : ℕ} → Sized g S → Close f (f ⊞ g) S
beside f {g} {S} z = turned (written (rw (zero-add S) at (sum (itself f) z)) (record { balance = simp flat (omega arith) }))

-- ---- products: two fractions that are F units apart, both multiplied by f, which is d / parts
few : (d p S F G : ℕ) → unit * d ≤ S * p → S * F ≤ G * unit → d * F ≤ G * p
few d p S F G h l = le_of_mul-le-mul_right {k = unit}
    (simp ring (omega (arith, simp ring at (mul-le-mul_right F h), simp ring at (mul-le-mul_right p l)))) unit_pos

at_most_times : (f h k : Fraction) (d F G : ℕ) → d * F ≤ G * f.parts → f.less + d ≡ f.more → AtMost h k F → AtMost (f ⊠ h) (f ⊠ k) G
at_most_times f h k d F G l e p = rw (← e) (simp ring
    (omega (arith, simp ring at (mul-le-mul_right (f.parts * d) p), simp ring at (mul-le-mul_right (f.parts * h.parts * k.parts) l))))

-- the same if f is -d / parts
at_most_times_less : (f h k : Fraction) (d F G : ℕ) → d * F ≤ G * f.parts → f.more + d ≡ f.less → AtMost k h F → AtMost (f ⊠ h) (f ⊠ k) G
at_most_times_less f h k d F G l e p = rw (← e) (simp ring
    (omega (arith, simp ring at (mul-le-mul_right (f.parts * d) p), simp ring at (mul-le-mul_right (f.parts * h.parts * k.parts) l))))

pub times : {f h k : Fraction} {S F G : ℕ} → Sized f S → Close h k F → S * F ≤ G * unit → Close (f ⊠ h) (f ⊠ k) G
times {f} {h} {k} {S} {F} {G} z p l = by_sign (ltb f.more f.less) (ltb→lt f.more f.less) (nltb→le f.more f.less)
  where
    by_sign : (u : Bool) → (T u → f.more < f.less) → (T (not u) → f.less ≤ f.more) → Close (f ⊠ h) (f ⊠ k) G
    by_sign true i j =
        let d = f.less - f.more in
        let e : f.more + d ≡ f.less = add-sub_of_le (le_of_lt (i tt)) in
        let s : d * F ≤ G * f.parts = few d f.parts S F G (omega (arith, z.lower, ap (λ (n : ℕ). unit * n) e)) l in
        record { upper = at_most_times_less f h k d F G s e p.lower; lower = at_most_times_less f k h d F G s e p.upper }
    by_sign false i j =
        let d = f.more - f.less in
        let e : f.less + d ≡ f.more = add-sub_of_le (j tt) in
        let s : d * F ≤ G * f.parts = few d f.parts S F G (omega (arith, z.upper, ap (λ (n : ℕ). unit * n) e)) l in
        record { upper = at_most_times f h k d F G s e p.upper; lower = at_most_times f k h d F G s e p.lower }

swapped : (f g : Fraction) → Same (f ⊠ g) (g ⊠ f)
swapped f g = record { balance = simp ring (omega arith) }

pub times_right : {f g h : Fraction} {S E G : ℕ} → Sized h S → Close f g E → S * E ≤ G * unit → Close (f ⊠ h) (g ⊠ h) G
times_right {f} {g} {h} z p l = written (turned (written (turned (times z p l)) (swapped h f))) (swapped h g)

-- the size of a product
pub sized_times : {f g : Fraction} {S R Q : ℕ} → Sized f S → Sized g R → S * R ≤ Q * unit → Sized (f ⊠ g) Q
sized_times p q l = written (times p q l) (record { balance = omega arith })
