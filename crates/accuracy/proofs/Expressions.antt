-- How rounding errors add up: the value of an expression if each operation is rounded, its exact value, and how far apart the two can be.
-- Assumes nothing.
use Rattle.prelude.proofs.Logic.{Bool, true, ◌&&◌, ℕ, ◌+◌, ◌*◌, ◌/◌, ◌≤◌, add_comm, lt-div-mul-add, arith, T, leb, leb→le, eqb, eqb→eq}
use Rattle.prelude.proofs.Logic.{and_l, and_r}
use Rattle.float64.proofs.Floats.{Float, binary64, add, sub, mul, finite}
use Rattle.accuracy.proofs.Fractions.{Fraction, ◌⊞◌, ◌⊠◌, ⊟◌, unit, unit_pos, same_close, through, sum, flip, times, times_right}
use Rattle.accuracy.proofs.Fractions.{Sized, sized_sum, sized_times}
use Rattle.accuracy.proofs.Rounding.{value, NearFraction, half_place}
use Rattle.accuracy.proofs.Operations.{add_near, sub_near, mul_near}

-- variables of A, and constants with their fractions
infixl 60 ◌⊕◌ ◌⊖◌
infixl 70 ◌⊗◌
pub data Expr (A : Type 0) : Type 0 where
  var : A → Expr A
  const : Float → Fraction → Expr A
  ◌⊕◌ ◌⊖◌ ◌⊗◌ : Expr A → Expr A → Expr A

abbrev pub run : {A : Type 0} → (A → Float) → Expr A → Float
run x (var v) = x v
run x (const k f) = k
run x (a ⊕ b) = add binary64 (run x a) (run x b)
run x (a ⊖ b) = sub binary64 (run x a) (run x b)
run x (a ⊗ b) = mul binary64 (run x a) (run x b)

abbrev pub exact : {A : Type 0} → (A → Fraction) → Expr A → Fraction
exact x (var v) = x v
exact x (const k f) = f
exact x (a ⊕ b) = exact x a ⊞ exact x b
exact x (a ⊖ b) = exact x a ⊞ ⊟ (exact x b)
exact x (a ⊗ b) = exact x a ⊠ exact x b

-- ---- sizes and errors, in units
-- n / unit, rounded up
abbrev pub units : ℕ → ℕ
units n = n / unit + 1

-- a bound of a constant's size
abbrev constant_size : Fraction → ℕ
constant_size f = unit * (f.more + f.less) / f.parts + 1

-- the error of a product x * y from those of x and y: y's error times the rounded x, plus x's error times the exact y
abbrev product_off : ℕ → ℕ → ℕ → ℕ → ℕ
product_off S E R F = units ((S + E) * F) + units (R * E)

-- the error of a number of size S with the error E, after it is rounded
abbrev rounded : ℕ → ℕ → ℕ
rounded S E = half_place (E + S) + E

-- s gives the sizes of the variables, which have no error
unfoldable pub bound : {A : Type 0} → (A → ℕ) → Expr A → ℕ
bound s (var v) = s v
bound s (const k f) = constant_size f
bound s (a ⊕ b) = bound s a + bound s b
bound s (a ⊖ b) = bound s a + bound s b
bound s (a ⊗ b) = units (bound s a * bound s b)

unfoldable pub error : {A : Type 0} → (A → ℕ) → Expr A → ℕ
unfolding bound
error s (var v) = 0
error s (const k f) = 0
error s (a ⊕ b) = rounded (bound s (a ⊕ b)) (error s a + error s b)
error s (a ⊖ b) = rounded (bound s (a ⊖ b)) (error s a + error s b)
error s (a ⊗ b) = rounded (bound s (a ⊗ b)) (product_off (bound s a) (error s a) (bound s b) (error s b))

abbrev is : Float → Fraction → Bool
is k f = finite k && eqb ((value k).more * f.parts + f.less * (value k).parts) ((value k).less * f.parts + f.more * (value k).parts)

-- each constant is its fraction, and no result is more than 2 in size
unfoldable pub fine : {A : Type 0} → (A → ℕ) → Expr A → Bool
unfolding bound error
fine s (var v) = true
fine s (const k f) = is k f
fine s (a ⊕ b) = fine s a && fine s b && leb (error s a + error s b + bound s (a ⊕ b)) (2 * unit)
fine s (a ⊖ b) = fine s a && fine s b && leb (error s a + error s b + bound s (a ⊖ b)) (2 * unit)
fine s (a ⊗ b) = fine s a && fine s b && leb (product_off (bound s a) (error s a) (bound s b) (error s b) + bound s (a ⊗ b)) (2 * unit)

-- ---- x is at most E units from f, which is at most S units in size
pub record Known (x : Float) (f : Fraction) (S E : ℕ) : Type 0 where
  pub near : NearFraction x f E
  pub sized : Sized f S

pub units_enough : (n : ℕ) → n ≤ units n * unit
units_enough n = omega (arith, lt-div-mul-add {a = n} unit_pos)

constant : (k : Float) (f : Fraction) → T (is k f) → Known k f (constant_size f) 0
constant k f t =
    let e = eqb ((value k).more * f.parts + f.less * (value k).parts) ((value k).less * f.parts + f.more * (value k).parts) in
    let d = lt-div-mul-add {a = unit * (f.more + f.less)} f.some in
    record {
      near = record { real = and_l (finite k) e t; close = same_close (record { balance = eqb→eq _ _ (and_r (finite k) e t) }) };
      sized = record { upper = omega arith; lower = omega arith };
    }

module _ {x y : Float} {f g : Fraction} {S E R F : ℕ} (p : Known x f S E) (q : Known y g R F) where
  added : E + F + (S + R) ≤ 2 * unit → Known (add binary64 x y) (f ⊞ g) (S + R) (rounded (S + R) (E + F))
  added t =
      let c = sum p.near.close q.near.close in
      let z = sized_sum p.sized q.sized in
      let n = add_near x y (E + F + (S + R)) p.near.real q.near.real (through c z) t in
      record { near = record { real = n.real; close = through n.close c }; sized = z }

  taken-off : E + F + (S + R) ≤ 2 * unit → Known (sub binary64 x y) (f ⊞ ⊟ g) (S + R) (rounded (S + R) (E + F))
  taken-off t =
      let c = sum p.near.close (flip q.near.close) in
      let z = sized_sum p.sized (flip q.sized) in
      let n = sub_near x y (E + F + (S + R)) p.near.real q.near.real (through c z) t in
      record { near = record { real = n.real; close = through n.close c }; sized = z }

  multiplied : product_off S E R F + units (S * R) ≤ 2 * unit
      → Known (mul binary64 x y) (f ⊠ g) (units (S * R)) (rounded (units (S * R)) (product_off S E R F))
  multiplied t =
      let x_sized : Sized (value x) (S + E) = rw (add_comm S E) (through p.near.close p.sized) in
      let c = through (times x_sized q.near.close (units_enough ((S + E) * F)))
      (times_right q.sized p.near.close (units_enough (R * E))) in
      let z = sized_times p.sized q.sized (units_enough (S * R)) in
      let n = mul_near x y (product_off S E R F + units (S * R)) p.near.real q.near.real (through c z) t in
      record { near = record { real = n.real; close = through n.close c }; sized = z }

-- ---- all together: the rounded value of an expression that is `fine` is at most its error from the exact value
module _ {A : Type 0} (x : A → Float) (f : A → Fraction) (s : A → ℕ) (given : (v : A) → Known (x v) (f v) (s v) 0) where
  both : (a b : Expr A) (t : Bool) → T (fine s a && fine s b && t) → T (fine s a) × T (fine s b) × T t
  both a b t h = let u = and_l (fine s a && fine s b) t h in
      (and_l (fine s a) (fine s b) u, and_r (fine s a) (fine s b) u, and_r (fine s a && fine s b) t h)

  pub known : (e : Expr A) → T (fine s e) → Known (run x e) (exact f e) (bound s e) (error s e)
  unfolding fine bound error
  known (var v) t = given v
  known (const k g) t = constant k g t
  known (a ⊕ b) t = let h = both a b _ t in added (known a h.0) (known b h.1) (leb→le _ _ h.2)
  known (a ⊖ b) t = let h = both a b _ t in taken-off (known a h.0) (known b h.1) (leb→le _ _ h.2)
  known (a ⊗ b) t = let h = both a b _ t in multiplied (known a h.0) (known b h.1) (leb→le _ _ h.2)
