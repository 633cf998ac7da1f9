-- From fractions to the statement: the two sides of an alternating sum of integers, and `WithinSum` for a float near a fraction. Assumes
-- nothing.
use Rattle.prelude.proofs.Logic.{◌≡◌, refl, ap, Bool, true, false, not, ◌&&◌, cond, List, [], ◌∷◌, ℕ, zero, suc, ◌+◌, ◌-◌, ◌*◌, ◌/◌, ◌^◌}
use Rattle.prelude.proofs.Logic.{◌≤◌, le_trans, zero-mul, mul-zero, mul-le-mul_right, le_of_mul-le-mul_right, pow-zero, pow-suc, arith, ℤ}
use Rattle.prelude.proofs.Logic.{pos, negsuc, neg_ℤ, nat_abs, ◌-ℤ◌, ◌*ℤ◌, pow_mono}
use lib.IntN.{pow, one}
use Rattle.float64.proofs.Floats.{Float, nan, inf, fin, up}
use Rattle.integers.proofs.Integers.{P, N}
use Rattle.integers.proofs.Sums as integers
use Rattle.accuracy.specs.Accuracy.{top, bottom, ◌!, term, alternating, WithinSum}
use Rattle.accuracy.proofs.Fractions.{Fraction, unit, unit_pos}
use Rattle.accuracy.proofs.{Rounding.value, Rounding.NearFraction, Series.amount}

-- z is p - n
pub record Is (z : ℤ) (p n : ℕ) : Type 0 where
  pub balance : P z + n ≡ N z + p

is_less : {x y : ℤ} {p n q m : ℕ} → Is x p n → Is y q m → Is (x -ℤ y) (p + m) (n + q)
is_less {x} {y} h k =
    let d = integers.difference x y in
    record { balance = omega (arith, h.balance, k.balance, d.0.balance, d.1.over, d.1.under) }

is_times : {x : ℤ} {p n : ℕ} (k : ℕ) → Is x p n → Is (x *ℤ pos k) (p * k) (n * k)
is_times {x} k h =
    record { balance = omega (arith, ap (λ (z : ℕ). z * k) h.balance, (integers.times x k).over, (integers.times x k).under) }

-- ---- the integer a, or -a if s, and its powers
abbrev integer : Bool → ℕ → ℤ
integer false a = pos a
integer true a = neg_ℤ (pos a)

is_integer : (s : Bool) (a : ℕ) → Is (integer s a) (cond s 0 a) (cond s a 0)
is_integer false a = record { balance = omega arith }
is_integer true a = let f = integers.flip (pos a) in record { balance = omega (arith, f.over, f.under) }

by_minus : (t : Bool) (a b : ℕ) → integer t b *ℤ neg_ℤ (pos a) ≡ integer (not t) (b * a)
by_minus false zero b = rw (mul-zero b)
by_minus false (suc a) b = refl
by_minus true zero zero = refl
by_minus true zero (suc b) = rw (mul-zero (suc b))
by_minus true (suc a) zero = rw (zero-mul (suc a))
by_minus true (suc a) (suc b) = refl

abbrev odd : ℕ → Bool
odd zero = false
odd (suc k) = not (odd k)

power : (s : Bool) (a k : ℕ) → pow (integer s a) k ≡ integer (s && odd k) (a ^ k)
unfolding pow one
power false a zero = rw (pow-zero a)
power true a zero = rw (pow-zero a)
power false a (suc k) = rw (power false a k, pow-suc a k)
power true a (suc k) = rw (power true a k, pow-suc a k) (by_minus (odd k) a (a ^ k))

-- ---- the sum's two sides: what is added, or what is subtracted if b
module _ (s : Bool) (n a d : ℕ) where
  abbrev pub sides : Bool → List ℕ → ℕ
  sides b [] = 0
  sides b (k ∷ l) = cond b (cond (s && odd k) (amount n a d k) 0) (cond (s && odd k) 0 (amount n a d k)) + sides (not b) l

  is-term : (k : ℕ) → Is (term n (integer s a) d k) (cond (s && odd k) 0 (amount n a d k)) (cond (s && odd k) (amount n a d k) 0)
  is-term k = rw (power s a k) (by_sign (s && odd k) (is_times (n ! / k ! * d ^ (n - k)) (is_integer (s && odd k) (a ^ k))))
    where
      by_sign : (t : Bool) {z : ℤ} → Is z (cond t 0 (a ^ k) * (n ! / k ! * d ^ (n - k))) (cond t (a ^ k) 0 * (n ! / k ! * d ^ (n - k)))
          → Is z (cond t 0 (amount n a d k)) (cond t (amount n a d k) 0)
      by_sign false h = rw (zero-mul (n ! / k ! * d ^ (n - k))) at h
      by_sign true h = rw (zero-mul (n ! / k ! * d ^ (n - k))) at h

  pub is_sum : (l : List ℕ) → Is (alternating (term n (integer s a) d) l) (sides false l) (sides true l)
  is_sum [] = record { balance = refl }
  is_sum (k ∷ l) = is_less (is-term k) (is_sum l)

-- ---- a float near a fraction
is_top : (y : Float) → Is (top y) (value y).more (value y).less
is_top nan = record { balance = refl }
is_top (inf s) = record { balance = refl }
is_top (fin false m e) = is_integer false (m * up e)
is_top (fin true m e) = is_integer true (m * up e)

bottom_is : (y : Float) → bottom y ≡ (value y).parts
bottom_is nan = refl
bottom_is (inf s) = refl
bottom_is (fin false m e) = refl
bottom_is (fin true m e) = refl

small : (z : ℤ) (p n m : ℕ) → Is z p n → unit * p ≤ unit * n + m → unit * n ≤ unit * p + m → unit * nat_abs z ≤ m
small (pos v) p n m h i j = omega (arith, ap (λ (z : ℕ). unit * z) h.balance)
small (negsuc v) p n m h i j = omega (arith, ap (λ (z : ℕ). unit * z) h.balance)

counted : (K v E m : ℕ) → unit * v ≤ E * m → E * K ≤ unit → K * v ≤ m
counted K v E m h l = le_of_mul-le-mul_right {k = unit} (omega (arith, mul-le-mul_right K h, mul-le-mul_right m l)) unit_pos

pub within : (k : ℕ) {y : Float} {f : Fraction} {z : ℤ} {E : ℕ} → Is z f.more f.less → NearFraction y f E → E * 2 ^ k ≤ unit
    → WithinSum k y z f.parts
within k {y} {f} {z} {E} h n l =
    let v = value y in
    let d = is_less (is_times f.parts (is_top y)) (is_times v.parts h) in
    let s = small _ (v.more * f.parts + f.less * v.parts) (v.less * f.parts + f.more * v.parts) (E * (f.parts * v.parts)) d
    (omega (arith, n.close.upper)) (omega (arith, n.close.lower)) in
    record { real = n.real; near = rw (bottom_is y) (counted (2 ^ k) _ E (f.parts * v.parts) s l) }

pub wider : {j k : ℕ} {y : Float} {z : ℤ} {w : ℕ} → j ≤ k → WithinSum k y z w → WithinSum j y z w
wider l h = record { real = h.real; near = le_trans (mul-le-mul_right _ (pow_mono l)) h.near }
