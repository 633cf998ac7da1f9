-- From the whole number s nearest to the root of m * 2 ^ 52 to the float that `rounded_root` defines.
-- With n = 4 * m * 2 ^ 52 * P * P the root of n is strictly between (2 s - 1) * P and (2 s + 1) * P.
-- So is half of the number that is rounded: the cut root, with one more digit for the rest.
use Rattle.prelude.proofs.Logic.{◌≡◌, refl, sym, ap, ◌∙◌, Bool, true, false, cond, ℕ, ◌+◌, ◌-◌, ◌*◌, ◌^◌, ◌≤◌, ◌<◌, lt_trans}
use Rattle.prelude.proofs.Logic.{lt_of_le_of_lt, lt_of_not-le, mul_comm, mul_assoc, mul_left_comm, mul-add, add-mul, mul-pos, mul-le-mul}
use Rattle.prelude.proofs.Logic.{mul-le-mul_left, mul-le-mul_right, mul-lt-mul_of_pos_right, arith, T, eqb, lit≤, pow-add, pow_pos}
use Rattle.prelude.proofs.Logic.{eqb-true}
use Rattle.prelude.proofs.Ieee.{binary64, units, fits, of_bits, round-fits, round_same}
use Rattle.fdlibm_root.specs.Root.{Root, whole_root, rest, rounded_root}
use Rattle.fdlibm_root.proofs.RootLaws.{whole_root_lem, smaller}
use Rattle.fdlibm_root.specs.Near.{NearRoot}
use Rattle.fdlibm_root.proofs.Rounding.{FullWidth, round_to, units_pattern}

-- ---- between A and B, for the root of an n between their squares
below_root : (n r A : ℕ) → Root n r → A * A < n → 2 * A < 2 * r + rest n r
below_root n r A root lo = go (eqb (r * r) n) refl
  where
    go : (b : Bool) → eqb (r * r) n ≡ b → 2 * A < 2 * r + rest n r
    go true e =
        let less : A < r = smaller A r (rw (eqb-true (r * r) n e) lo) in
        omega arith
    go false e =
        let less : A < r + 1 = smaller A (r + 1) (lt_trans lo root.above) in let more : rest n r ≡ 1 = simp e in
        omega arith

above_root : (n r B : ℕ) → Root n r → n < B * B → 2 * r + rest n r < 2 * B
above_root n r B root hi =
    let less : r < B = smaller r B (lt_of_le_of_lt root.within hi) in
    omega (arith, one (eqb (r * r) n))
  where
    one : (b : Bool) → cond b 0 1 ≤ 1
    one true = lit≤ tt
    one false = lit≤ tt

-- ---- squares times P * P
ruleset ring = (mul_assoc, mul_comm, mul_left_comm, mul-add, add-mul)

module _ (M P n : ℕ) (P_pos : 0 < P) (is : n ≡ 4 * M * (P * P)) where
  pub square_above : (a : ℕ) → a * a < 4 * M → a * P * (a * P) < n
  square_above a h = rw is (simp ring (simp ring at (mul-lt-mul_of_pos_right h (mul-pos P_pos P_pos))))

  pub square-below : (a : ℕ) → 4 * M < a * a → n < a * P * (a * P)
  square-below a h = rw is (simp ring (simp ring at (mul-lt-mul_of_pos_right h (mul-pos P_pos P_pos))))

  pub square-within : (a : ℕ) → a * a ≤ 4 * M → a * P * (a * P) ≤ n
  square-within a h = rw is (simp ring (simp ring at (mul-le-mul_right (P * P) h)))

-- ---- s has 53 digits
too_few : (s M k : ℕ) → s + 1 ≤ k → M ≤ s * s + s → k * k ≤ M → ⊥
too_few s M k h hi lo = let product : (s + 1) * (s + 1) ≤ k * k = mul-le-mul h h in omega arith

too_many : (s M k : ℕ) → k + 1 ≤ s → s * s < M + s → M ≤ k * (k + 1) → ⊥
too_many s M k h lo hi =
    let a : (k + 1) * s ≤ s * s = mul-le-mul_right s h in let b : k * (k + 1) ≤ k * s = mul-le-mul_left k h in
    omega arith

near_lo : (m s : ℕ) → NearRoot m s → 2 ^ 52 ≤ m → 2 ^ 52 ≤ s
near_lo m s near h =
    let few : s + 1 ≤ 2 ^ 52 → ⊥ = λ g. too_few s (m * 2 ^ 52) (2 ^ 52) g near.high (mul-le-mul_right (2 ^ 52) h) in
    omega arith

pub near_hi : (m s : ℕ) → NearRoot m s → m ≤ 18014398509481982 → s < 2 ^ 53
near_hi m s near h = lt_of_not-le (λ (g : 2 ^ 53 ≤ s). too_many s (m * 2 ^ 52) 9007199254740991 g near.low (mul-le-mul_right (2 ^ 52) h))

-- ---- v between 2 * t * P and 2 * (2 * s + 1) * P, in the units of `round`: one of v's units is Q of these
module _ (s t P Q v w : ℕ) (Q-pos : 0 < Q) (odd : t + 1 ≡ 2 * s) (unit : w ≡ 4 * (P * Q)) where
  unit-lo : 2 * (t * P) < v → 2 * s * w < 2 * (v * Q) + w
  unit-lo h =
      let a : 2 * (t * P) * Q < v * Q = mul-lt-mul_of_pos_right h Q-pos in
      let b : (t + 1) * (P * Q) ≡ 2 * s * (P * Q) = ap (λ (z : ℕ). z * (P * Q)) odd in
      rw unit (omega arith)

  unit-hi : v < 2 * ((2 * s + 1) * P) → 2 * (v * Q) < 2 * s * w + w
  unit-hi h = let a : v * Q < 2 * ((2 * s + 1) * P) * Q = mul-lt-mul_of_pos_right h Q-pos in rw unit (omega arith)

  digits-lo : (k : ℕ) → k * 4 * P ≤ v → k * w ≤ v * Q
  digits-lo k h = let a : k * 4 * P * Q ≤ v * Q = mul-le-mul_right Q h in rw unit (omega arith)

  digits-hi : (k : ℕ) → v < k * 4 * P → v * Q < k * w
  digits-hi k h = let a : v * Q < k * 4 * P * Q = mul-lt-mul_of_pos_right h Q-pos in rw unit (omega arith)

-- ---- all together: P is 2 ^ i, Q is 2 ^ 473, and round drops i + 475 digits
pub odd_below : (s t M : ℕ) → t + 1 ≡ 2 * s → s * s < M + s → t * t < 4 * M
odd_below s t M odd h = let squares : (t + 1) * (t + 1) ≡ 2 * s * (2 * s) = ap (λ (z : ℕ). z * z) odd in omega arith

pub odd_above : (s M : ℕ) → M ≤ s * s + s → 4 * M < (2 * s + 1) * (2 * s + 1)
odd_above s M h = omega arith

pub near_digits : (m s i : ℕ) → NearRoot m s → 2 ^ 52 ≤ m → m ≤ 18014398509481982 → i < 1500 → FullWidth s (i + 475)
near_digits m s i near m-lo m-hi small = record { low = near_lo m s near m-lo; high = near_hi m s near m-hi; room = omega arith }

pub rounded_units : (m s i n : ℕ) → NearRoot m s → 2 ^ 52 ≤ m → FullWidth s (i + 475) → n ≡ 4 * (m * 2 ^ 52) * (2 ^ i * 2 ^ i)
    → rounded_root n ≡ units binary64 false s (i + 475)
unfolding rounded_root
rounded_units m s i n near m-lo d is =
    let M = m * 2 ^ 52 in let P = 2 ^ i in let Q = 2 ^ 473 in let r = whole_root n in let v = 2 * r + rest n r in
    let root = whole_root_lem n in let t = 2 * s - 1 in let w = 2 ^ (i + 475) in let odd : t + 1 ≡ 2 * s = twice s d.low in
    let unit : w ≡ 4 * (P * Q) = pow-add 2 i 475 ∙ mul_left_comm P 4 Q in
    let lo : 2 * (t * P) < v = below_root n r (t * P) root (square_above M P n (pow_pos i) is t (odd_below s t M odd near.low)) in
    let hi : v < 2 * ((2 * s + 1) * P) =
    above_root n r ((2 * s + 1) * P) root (square-below M P n (pow_pos i) is (2 * s + 1) (odd_above s M near.high)) in
    let leading : 2 ^ 53 * P * (2 ^ 53 * P) ≤ n =
    square-within M P n (pow_pos i) is (2 ^ 53) (mul-le-mul_left 4 (mul-le-mul_right (2 ^ 52) m-lo)) in
    let first : 2 ^ 53 * P < r + 1 = smaller (2 ^ 53 * P) (r + 1) (lt_of_le_of_lt leading root.above) in
    round_same binary64 false v (2 ^ 601) (v * Q) (2 ^ 1074) (pow_pos 601) (pow_pos 1074) (sym (mul_assoc v Q (2 ^ 601)))
    ∙ round_to (v * Q) (2 ^ 1074) s (i + 475) refl
    (rw (pow-add 2 52 (i + 475)) (digits-lo s t P Q v w (pow_pos 473) odd unit (2 ^ 52) (least P r (rest n r) first)))
    (rw (pow-add 2 53 (i + 475)) (digits-hi s t P Q v w (pow_pos 473) odd unit (2 ^ 53) (most s P v d.high hi)))
    (unit-lo s t P Q v w (pow_pos 473) odd unit lo)
    (unit-hi s t P Q v w (pow_pos 473) odd unit hi)
  where
    twice : (s : ℕ) → 2 ^ 52 ≤ s → 2 * s - 1 + 1 ≡ 2 * s
    twice s h = omega arith

    least : (P r c : ℕ) → 2 ^ 53 * P < r + 1 → 2 ^ 54 * P ≤ 2 * r + c
    least P r c h = omega arith

    most : (s P v : ℕ) → s < 2 ^ 53 → v < 2 * ((2 * s + 1) * P) → v < 2 ^ 55 * P
    most s P v h g = let a : (2 * s + 1) * P ≤ 2 ^ 54 * P = mul-le-mul_right P (room s h) in omega arith
      where
        room : (s : ℕ) → s < 2 ^ 53 → 2 * s + 1 ≤ 2 ^ 54
        room s h = omega arith

-- `rounded_root` gives a float
rounded_fits : (n : ℕ) → T (fits binary64 (rounded_root n))
unfolding rounded_root
rounded_fits n = round-fits binary64 false (2 * whole_root n + rest n (whole_root n)) (2 ^ 601)

pub rounded_root_lem : (m s i n : ℕ) → NearRoot m s → 2 ^ 52 ≤ m → m ≤ 18014398509481982 → i < 1500 → n ≡ 4 * (m * 2 ^ 52) * (2 ^ i * 2 ^ i)
    → rounded_root n ≡ of_bits binary64 ((i + 475) * 2 ^ 52 + s)
rounded_root_lem m s i n near m-lo m-hi small is =
    let d = near_digits m s i near m-lo m-hi small in let e = rounded_units m s i n near m-lo d is in
    e ∙ units_pattern s (i + 475) d (rw (← e) (rounded_fits n))
