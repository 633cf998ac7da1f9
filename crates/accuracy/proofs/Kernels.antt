-- What the two kernels share: an argument x of at most 3 / 4 in size, a second float q of at most 1 / 4, the square z of x, and a
-- polynomial 1 + z * (k + z * ..) that is compared with the first ten terms of a series. Assumes nothing.
use Rattle.prelude.proofs.Logic.{◌≡◌, refl, sym, ◌∙◌, Bool, true, false, List, ◌∷◌, ℕ, ◌+◌, ◌*◌, ◌^◌, ◌≤◌, ◌<◌, zero-add, one-mul, mul-one}
use Rattle.prelude.proofs.Logic.{zero-mul, mul-le-mul, mul-le-mul_right, mul-le-mul_left, le_of_mul-le-mul_right, arith, T, lit<, lit≤, ℤ}
use Rattle.float64.proofs.Floats.{Float, nan, inf, fin, up, down, size, round, HasValue, dec, within_limits, Within}
use Rattle.accuracy.specs.Accuracy.{Moderate}
use Rattle.accuracy.proofs.Fractions.{Fraction, ◌⊞◌, ◌⊠◌, unity, unit, Close, itself, looser, turned, through, Same, written, sum}
use Rattle.accuracy.proofs.Fractions.{times, beside, Sized, sized_times}
use Rattle.accuracy.proofs.Rounding.{value, NearFraction}
use Rattle.accuracy.proofs.Expressions.{Expr, var, ◌⊗◌, Known, run, exact, units, units_enough, bound, error, fine, known}
use Rattle.accuracy.proofs.Series.{Term, plus}
use Rattle.accuracy.proofs.Polynomials.{polynomial, in_front, horner, row, rows, added, taken, near, horner_near}

-- ---- arguments from -0.75 to 0.75
three_quarters : HasValue (dec 75 2) false 3 4
unfolding dec round size
three_quarters = (refl, refl)

moderate : (x : Float) → Moderate x → Within x 3 4
moderate x h = within_limits x (dec 75 2) 3 4 (lit< tt) three_quarters h.0 h.1

-- a property of every finite float of at most 3 / 4 in size holds of every argument in the range
pub for_moderate : (P : Float → Type 0) → ((s : Bool) (m : ℕ) (e : ℤ) → Within (fin s m e) 3 4 → P (fin s m e)) → (x : Float) → Moderate x
    → P x
for_moderate P f nan h = absurd (moderate nan h)
for_moderate P f (inf s) h = absurd (moderate (inf s) h)
for_moderate P f (fin s m e) h = f s m e (moderate (fin s m e) h)

-- a float of at most a / c in size, which is S units, is known without error
pub exactly : (x : Float) (a c S : ℕ) → 0 < c → a * unit ≤ S * c → Within x a c → Known x (value x) S 0
exactly nan a c S p l h = absurd h
exactly (inf s) a c S p l h = absurd h
exactly (fin s m e) a c S p l h = record { near = record { real = tt; close = itself (value (fin s m e)) }; sized = by_sign s }
  where
    under : (A d : ℕ) → A * c ≤ a * d → unit * A ≤ S * d
    under A d i = le_of_mul-le-mul_right {k = c} (omega (arith, mul-le-mul_left unit i, mul-le-mul_right d l)) p

    by_sign : (s : Bool) → Sized (value (fin s m e)) S
    by_sign false = record { upper = omega (arith, under (m * up e) (down e) h); lower = omega arith }
    by_sign true = record { upper = omega arith; lower = omega (arith, under (m * up e) (down e) h) }

-- ---- the two inputs
pub record Inputs : Type 0 where
  pub argument : Float
  pub second : Float
  pub moderately : Within argument 3 4
  pub slightly : Within second 1 4

pub data Input : Type 0 where
  x q : Input

abbrev pub sizes : Input → ℕ
sizes x = 3 * 2 ^ 62
sizes q = 2 ^ 62

abbrev pub z : Expr Input
z = var x ⊗ var x

square_even : (a : Float) → (value a ⊠ value a).less ≡ 0
square_even nan = refl
square_even (inf s) = refl
square_even (fin false m e) = omega arith
square_even (fin true m e) = omega arith

square_small : (a : Float) → Within a 3 4 → 16 * (value a ⊠ value a).more ≤ 9 * (value a ⊠ value a).parts
square_small nan h = absurd h
square_small (inf s) h = absurd h
square_small (fin false m e) h = omega (arith, mul-le-mul h h)
square_small (fin true m e) h = omega (arith, mul-le-mul h h)

-- ---- a kernel's polynomial 1 + z * (k + z * ..), and a series of ten terms whose first is 1: the other nine, in parts of 1 / n, are ts
pub record Kernel : Type 0 where
  pub k : Float
  pub l : List Float
  pub n : ℕ
  pub some : 0 < n
  pub ts : List Term
  -- without rounding, k + z * .. is at most `off` units from the nine
  pub off : ℕ
  pub close : T (near n (rows (k ∷ l) ts) off)
  pub runs : T (fine sizes (horner z k l))
  pub small : off + bound sizes (horner z k l) ≤ unit

abbrev pub ten : Kernel → Fraction → Fraction
ten c f = polynomial f added taken c.n c.some (row 0 0 (plus c.n) ∷ rows (c.k ∷ c.l) c.ts)

-- how far 1 + z * (k + z * ..) without rounding can be from the ten
abbrev pub ten_off : Kernel → ℕ
ten_off c = 0 + units (bound sizes z * c.off)

module _ (i : Inputs) where
  abbrev pub floats : Input → Float
  floats x = i.argument
  floats q = i.second

  abbrev pub of : Input → Fraction
  of v = value (floats v)

  pub given : (v : Input) → Known (floats v) (of v) (sizes v) 0
  unfolding unit
  given x = exactly i.argument 3 4 (3 * 2 ^ 62) (lit< tt) (lit≤ tt) i.moderately
  given q = exactly i.second 1 4 (2 ^ 62) (lit< tt) (lit≤ tt) i.slightly

  knows : (e : Expr Input) → T (fine sizes e) → Known (run floats e) (exact of e) (bound sizes e) (error sizes e)
  knows e t = known floats of sizes given e t

  pub run-near : (e : Expr Input) → T (fine sizes e) → {f : Fraction} {E G : ℕ} → Close (exact of e) f E → error sizes e + E ≤ G
      → NearFraction (run floats e) f G
  run-near e t c l = let k = knows e t in record { real = k.near.real; close = looser l (through k.near.close c) }

  z-sized : Sized (exact of z) (bound sizes z)
  unfolding fine bound error unit
  z-sized = (knows z tt).sized

  module _ (c : Kernel) where
    abbrev inner : Fraction
    inner = exact of (horner z c.k c.l)

    abbrev nine : Fraction
    nine = polynomial (exact of z) added taken c.n c.some (rows (c.k ∷ c.l) c.ts)

    nine-near : Close inner nine c.off
    nine-near = rw (zero-add c.off) at (horner_near of z z-sized (square_even i.argument) (square_small i.argument i.moderately)
        c.k c.l c.ts c.n c.some c.off c.close)

    ten-is : Same (unity ⊞ exact of z ⊠ nine) (ten c (exact of z))
    ten-is =
        in_front (exact of z) (square_even i.argument) added taken c.n c.some unity (row 0 0 (plus c.n))
        (rows (c.k ∷ c.l) c.ts)
        (one-mul c.n ∙ sym (mul-one c.n)) (zero-mul c.n)

    -- the polynomial without rounding is near the ten terms
    pub ten-near : Close (unity ⊞ exact of z ⊠ inner) (ten c (exact of z)) (ten_off c)
    ten-near = written (sum (itself unity) (times z-sized nine-near (units_enough (bound sizes z * c.off)))) ten-is

    -- for an x of up to 2 ^ -26 they are nearly 1
    pub ten-tiny : Within i.argument 1 (2 ^ 26) → Close unity (ten c (exact of z)) (2 ^ 12)
    unfolding unit
    ten-tiny t =
        let s = (exactly i.argument 1 (2 ^ 26) (2 ^ 38) (lit< tt) (lit≤ tt) t).sized in
        let y : Sized (exact of z) (2 ^ 12) = sized_times s s (lit≤ tt) in
        let g : Sized nine unit = looser c.small (through (turned nine-near) (knows (horner z c.k c.l) c.runs).sized) in
        let r : Sized (exact of z ⊠ nine) (2 ^ 12) = sized_times y g (lit≤ tt) in
        written (beside unity r) ten-is
