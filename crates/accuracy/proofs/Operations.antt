-- Each operation of binary64 is the exact result rounded once: at most half of a last place away, for results up to 2 in size. Assumes
-- nothing.
use Rattle.prelude.proofs.Logic.{◌≡◌, refl, ap, Bool, true, false, not, cond, ℕ, ◌+◌, ◌-◌, ◌*◌, ◌≤◌, ◌<◌, arith, T, ltb, ltb→lt, nltb→le}
use Rattle.float64.proofs.Floats.{Float, nan, inf, fin, binary64, up, down, round, neg, sum, add, sub, mul, finite}
use Rattle.accuracy.proofs.Fractions.{Fraction, ◌⊞◌, ◌⊠◌, ⊟◌, unit, Sized, written}
use Rattle.accuracy.proofs.Rounding.{value, NearFraction, half_place, round-near}

-- v, with the sign u, is the difference of f's two sides
exactly : (u : Bool) (v : ℕ) (f : Fraction) (S : ℕ) → v + cond u f.more f.less ≡ cond u f.less f.more → Sized f S → S ≤ 2 * unit
    → NearFraction (round binary64 u v f.parts) f (half_place S)
exactly false v f S e z t =
    let n = round-near v f.parts S f.some (omega (arith, ap (λ (k : ℕ). unit * k) e, z.upper)) t false in
    record { real = n.real; close = written n.close (record { balance = omega (arith, ap (λ (k : ℕ). k * f.parts) e) }) }
exactly true v f S e z t =
    let n = round-near v f.parts S f.some (omega (arith, ap (λ (k : ℕ). unit * k) e, z.lower)) t true in
    record { real = n.real; close = written n.close (record { balance = omega (arith, ap (λ (k : ℕ). k * f.parts) e) }) }

pub mul_near : (x y : Float) (S : ℕ) → T (finite x) → T (finite y) → Sized (value x ⊠ value y) S → S ≤ 2 * unit
    → NearFraction (mul binary64 x y) (value x ⊠ value y) (half_place S)
unfolding mul
mul_near nan y S p q z t = absurd p
mul_near (inf s) y S p q z t = absurd p
mul_near (fin s m e) nan S p q z t = absurd q
mul_near (fin s m e) (inf u) S p q z t = absurd q
mul_near (fin false m e) (fin false n d) S p q z t = exactly false (m * up e * (n * up d)) _ S (omega arith) z t
mul_near (fin false m e) (fin true n d) S p q z t = exactly true (m * up e * (n * up d)) _ S (omega arith) z t
mul_near (fin true m e) (fin false n d) S p q z t = exactly true (m * up e * (n * up d)) _ S (omega arith) z t
mul_near (fin true m e) (fin true n d) S p q z t = exactly false (m * up e * (n * up d)) _ S (omega arith) z t

-- ---- sums: if the signs differ, the smaller is subtracted from the larger; a zero is positive
module _ (a b : ℕ) (f : Fraction) (S : ℕ) (z : Sized f S) (t : S ≤ 2 * unit) where
  a-less-b : f.more + b ≡ f.less + a
      → NearFraction (cond (ltb a b) (round binary64 true (b - a) f.parts) (round binary64 false (a - b) f.parts)) f (half_place S)
  a-less-b e = by_order (ltb a b) (ltb→lt a b) (nltb→le a b)
    where
      by_order : (u : Bool) → (T u → a < b) → (T (not u) → b ≤ a)
          → NearFraction (cond u (round binary64 true (b - a) f.parts) (round binary64 false (a - b) f.parts)) f (half_place S)
      by_order true l g = exactly true (b - a) f S (omega (arith, l tt)) z t
      by_order false l g = exactly false (a - b) f S (omega (arith, g tt)) z t

  b-less-a : f.more + a ≡ f.less + b → NearFraction
      (cond (ltb a b) (round binary64 false (b - a) f.parts) (round binary64 (ltb b a) (a - b) f.parts)) f (half_place S)
  b-less-a e = by_order (ltb a b) (ltb→lt a b) (nltb→le a b) (ltb b a) (nltb→le b a)
    where
      by_order : (u : Bool) → (T u → a < b) → (T (not u) → b ≤ a) → (w : Bool) → (T (not w) → a ≤ b)
          → NearFraction (cond u (round binary64 false (b - a) f.parts) (round binary64 w (a - b) f.parts)) f (half_place S)
      by_order true l g w h = exactly false (b - a) f S (omega (arith, l tt)) z t
      by_order false l g true h = exactly true (a - b) f S (omega (arith, g tt)) z t
      by_order false l g false h = exactly false (a - b) f S (omega (arith, g tt, h tt)) z t

pub add_near : (x y : Float) (S : ℕ) → T (finite x) → T (finite y) → Sized (value x ⊞ value y) S → S ≤ 2 * unit
    → NearFraction (add binary64 x y) (value x ⊞ value y) (half_place S)
unfolding add sum
add_near nan y S p q z t = absurd p
add_near (inf s) y S p q z t = absurd p
add_near (fin s m e) nan S p q z t = absurd q
add_near (fin s m e) (inf u) S p q z t = absurd q
add_near (fin false m e) (fin false n d) S p q z t = exactly false (m * up e * down d + n * up d * down e) _ S (omega arith) z t
add_near (fin true m e) (fin true n d) S p q z t = exactly true (m * up e * down d + n * up d * down e) _ S (omega arith) z t
add_near (fin false m e) (fin true n d) S p q z t = a-less-b (m * up e * down d) (n * up d * down e) _ S z t (omega arith)
add_near (fin true m e) (fin false n d) S p q z t = b-less-a (m * up e * down d) (n * up d * down e) _ S z t (omega arith)

value_neg : (y : Float) → value (neg y) ≡ ⊟ (value y)
unfolding neg
value_neg nan = refl
value_neg (inf s) = refl
value_neg (fin false m e) = refl
value_neg (fin true m e) = refl

finite_neg : (y : Float) → T (finite y) → T (finite (neg y))
unfolding neg
finite_neg nan p = p
finite_neg (inf s) p = p
finite_neg (fin s m e) p = p

pub sub_near : (x y : Float) (S : ℕ) → T (finite x) → T (finite y) → Sized (value x ⊞ ⊟ (value y)) S → S ≤ 2 * unit
    → NearFraction (sub binary64 x y) (value x ⊞ ⊟ (value y)) (half_place S)
unfolding sub
sub_near x y S p q z t = rw (value_neg y) at (add_near x (neg y) S p (finite_neg y q) (rw (value_neg y) z) t)
