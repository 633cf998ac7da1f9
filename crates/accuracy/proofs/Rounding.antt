-- One rounding: a fraction of up to S units, at most 2 in size, is rounded to a finite float at most half of S's last place away.
-- Assumes nothing.
use Rattle.prelude.proofs.Logic.{◌≡◌, refl, sym, ap, ◌∙◌, subst, Bool, true, false, not, ℕ, ◌+◌, ◌-◌, ◌*◌, ◌/◌, ◌%◌, ◌^◌, ◌≤◌, ◌<◌, compare}
use Rattle.prelude.proofs.Logic.{Ordering, Ordering·lt, Ordering·eq, Ordering·gt, le_trans, le_of_eq, lt_of_le_of_lt, add-le-add, mul_assoc}
use Rattle.prelude.proofs.Logic.{mul-pos, mul-le-mul_right, mul-le-mul_left, le_of_mul-le-mul_right, div-add-mod', mod-lt}
use Rattle.prelude.proofs.Logic.{div-lt_iff_lt-mul, arith, T, is_le, compare_is_eq, leb→le, nleb→lt, eqb→eq, lit<, ℤ, pow_pos, pow_mono, pow-add}
use Rattle.float64.proofs.Floats.{Float, nan, inf, fin, binary64, up, down, size, nearest, round, size-lt, size-le, HasValue, units_val}
use Rattle.float64.proofs.Floats.{down_pos, round_is, closest, drop, kept, grid, finite}
use Rattle.accuracy.proofs.Fractions.{Fraction, nought, unit, Close}

-- ---- a float as a fraction
abbrev pub signed : Bool → (a c : ℕ) → 0 < c → Fraction
signed false a c p = record { more = a; less = 0; parts = c; some = p }
signed true a c p = record { more = 0; less = a; parts = c; some = p }

abbrev pub value : Float → Fraction
value nan = nought
value (inf s) = nought
value (fin s m e) = signed s (m * up e) (down e) (down_pos e)

-- x is finite, and at most E units from f
pub record NearFraction (x : Float) (f : Fraction) (E : ℕ) : Type 0 where
  pub real : T (finite x)
  pub close : Close (value x) f E

-- A number of up to S units has `size S` binary digits, and a float keeps 53 of them. `half_place` is half of the last one's place, in
-- units, and at least one.
abbrev half_digits : ℕ → ℕ
half_digits S = size S - 54

abbrev pub half_place : ℕ → ℕ
half_place S = 2 ^ half_digits S

-- ---- the nearest whole number to a / b is no more than a half away
closest_half : (a b : ℕ) → 0 < b → (closest a b * b * 2 ≤ a * 2 + b) × (a * 2 ≤ closest a b * b * 2 + b)
closest_half a b B = by_order (compare (a % b * 2) b) (leb→le (a % b * 2) b) (nleb→lt (a % b * 2) b) (eqb→eq (a % b * 2) b)
  where
    by_order : (o : Ordering) → (T (is_le o) → a % b * 2 ≤ b) → (T (not (is_le o)) → b < a % b * 2) → (T (compare_is_eq o) → a % b * 2 ≡ b)
        → (nearest (a / b) o * b * 2 ≤ a * 2 + b) × (a * 2 ≤ nearest (a / b) o * b * 2 + b)
    by_order Ordering·lt l g e = (omega (arith, div-add-mod' a b, l tt), omega (arith, div-add-mod' a b, l tt))
    by_order Ordering·eq l g e =
        let one : a / b % 2 ≤ 1 = omega arith in
        (omega (arith, div-add-mod' a b, e tt, mul-le-mul_right b one), omega (arith, div-add-mod' a b, e tt))
    by_order Ordering·gt l g e = (omega (arith, div-add-mod' a b, g tt), omega (arith, div-add-mod' a b, mod-lt a B))

-- ---- a / c rounds to `grid` times the smallest value, 2 ^ -1074; `low` of these are a unit
abbrev low : ℕ
low = 2 ^ 1010

low_units : 2 ^ 1074 ≡ unit * low
unfolding unit
low_units = refl

to_units : (p q r L M E : ℕ) → 0 < M → L ≡ unit * M → p * L ≤ q * L + r * (M * E) → unit * p ≤ unit * q + E * r
to_units p q r L M E P e l = le_of_mul-le-mul_right {k = M} (omega (arith, l, ap (λ (z : ℕ). p * z) e, ap (λ (z : ℕ). q * z) e)) P

module _ (a c S : ℕ) (C : 0 < c) (h : a * unit ≤ S * c) (t : S ≤ 2 * unit) where
  abbrev n : ℕ
  n = a * 2 ^ 1074

  -- the number of digits that are dropped
  abbrev places : ℕ
  places = drop 53 n c

  digits : size (n / c) ≤ size S + 1010
  digits = size-le (n / c) (size S + 1010)
      ((div-lt_iff_lt-mul C).1 (rw (low_units, pow-add 2 (size S) 1010) (below low (pow_pos 1010) (2 ^ size S) (size-lt S))))
    where
      below : (M : ℕ) → 0 < M → (W : ℕ) → S < W → a * (unit * M) < W * M * c
      below M P W l = omega (arith, mul-le-mul_right M h, mul-le-mul_right (M * c) l, mul-pos P C)

  place : 2 ^ places ≤ 2 * (low * half_place S)
  place = le_trans (pow_mono (fewer (size (n / c)) digits)) (le_of_eq (pow-add 2 1011 (half_digits S) ∙ mul_assoc 2 low (half_place S)))
    where
      fewer : (d : ℕ) → d ≤ size S + 1010 → d - 53 ≤ 1011 + half_digits S
      fewer d l = omega arith

  grid_near : (grid binary64 a c * c ≤ n + c * (low * half_place S)) × (n ≤ grid binary64 a c * c + c * (low * half_place S))
  grid_near = halved (kept 53 n c) n (2 ^ places) (low * half_place S) place (closest_half n (c * 2 ^ places) (mul-pos C (pow_pos places)))
    where
      halved : (q n P M : ℕ) → P ≤ 2 * M → (q * (c * P) * 2 ≤ n * 2 + c * P) × (n * 2 ≤ q * (c * P) * 2 + c * P)
          → (q * P * c ≤ n + c * M) × (n ≤ q * P * c + c * M)
      halved q n P M l h = (omega (arith, h.0, mul-le-mul_left c l), omega (arith, h.1, mul-le-mul_left c l))

  no_overflow : grid binary64 a c < 2 ^ 2098
  unfolding unit
  no_overflow =
      lt_of_le_of_lt (le_of_mul-le-mul_right {k = c}
      (under (grid binary64 a c) (2 ^ 1074) unit low (half_place S) low_units h grid_near.0) C)
      (lt_of_le_of_lt (mul-le-mul_left low (add-le-add t (pow_mono (short (size-le S 66 (lt_of_le_of_lt t (lit< tt))))))) (lit< tt))
    where
      short : size S ≤ 66 → half_digits S ≤ 12
      short l = omega arith

      under : (G L U M E : ℕ) → L ≡ U * M → a * U ≤ S * c → G * c ≤ a * L + c * (M * E) → G * c ≤ M * (S + E) * c
      under G L U M E e h l = omega (arith, mul-le-mul_right M h, ap (λ (z : ℕ). a * z) e)

  -- the float that is `grid` times the smallest value
  of-grid : (s : Bool) (m : ℕ) (e : ℤ) → m * up e * 2 ^ 1074 ≡ grid binary64 a c * down e
      → NearFraction (fin s m e) (signed s a c C) (half_place S)
  of-grid s m e v =
      by_sign s (bounds (m * up e) (down e) (2 ^ 1074) (grid binary64 a c) low (half_place S) (pow_pos 1010) low_units v grid_near)
    where
      bounds : (A d L G M E : ℕ) → 0 < M → L ≡ unit * M → A * L ≡ G * d → (G * c ≤ a * L + c * (M * E)) × (a * L ≤ G * c + c * (M * E))
          → (unit * (A * c) ≤ unit * (a * d) + E * (d * c)) × (unit * (a * d) ≤ unit * (A * c) + E * (d * c))
      bounds A d L G M E P e v g = (
        to_units (A * c) (a * d) (d * c) L M E P e (omega (arith, mul-le-mul_right d g.0, ap (λ (z : ℕ). z * c) v)),
        to_units (a * d) (A * c) (d * c) L M E P e (omega (arith, mul-le-mul_right d g.1, ap (λ (z : ℕ). z * c) v)),
      )

      by_sign : (s : Bool) → (unit * (m * up e * c) ≤ unit * (a * down e) + half_place S * (down e * c))
          × (unit * (a * down e) ≤ unit * (m * up e * c) + half_place S * (down e * c))
          → NearFraction (fin s m e) (signed s a c C) (half_place S)
      by_sign false b = record { real = tt; close = record { upper = omega (arith, b.0); lower = omega (arith, b.1) } }
      by_sign true b = record { real = tt; close = record { upper = omega (arith, b.1); lower = omega (arith, b.0) } }

  of-value : (x : Float) (s : Bool) → HasValue x s (grid binary64 a c) (2 ^ 1074) → NearFraction x (signed s a c C) (half_place S)
  of-value nan s v = absurd v
  of-value (inf t) s v = absurd v
  of-value (fin t m e) s v =
      subst (λ (b : Bool). NearFraction (fin b m e) (signed s a c C) (half_place S)) (sym v.0) (of-grid s m e v.1)

  pub round-near : (s : Bool) → NearFraction (round binary64 s a c) (signed s a c C) (half_place S)
  round-near s = rw (round_is binary64 s a c) (of-value _ s (units_val binary64 s (kept 53 n c) places no_overflow))
