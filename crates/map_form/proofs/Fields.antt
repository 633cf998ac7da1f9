-- From a bit pattern to the nearest count: what the fields of the pattern say of a float up to 180, and the arithmetic on them.
-- Assumes nothing.
use Rattle.prelude.proofs.Logic.{◌≡◌, sym, ap, ◌∙◌, Bool, true, false, cond, false≢true, ℕ, zero, suc, ◌+◌, ◌-◌, ◌*◌, ◌/◌, ◌%◌, ◌^◌}
use Rattle.prelude.proofs.Logic.{◌≤◌, ◌<◌, mul-one, mul_assoc, mul_comm, mul_left_comm, mul-add, add-mul, mul-pos, mul-le-mul}
use Rattle.prelude.proofs.Logic.{mul-le-mul_right, le_trans, lt_of_lt_of_le, not-le_of_lt, le_of_mul-le-mul_right, div-eq_of_lt}
use Rattle.prelude.proofs.Logic.{add-div_right, div-div-eq-div-mul, mul-div-mul_left, mul-div-mul_right, arith, leb, eqb, lit<, lit≤}
use Rattle.prelude.proofs.Logic.{pow-add, pow_pos, pow_mono, shl_lt, leb-true}
use Rattle.float64.proofs.Floats.{Float, nan, inf, fin, binary64, up, down, fits, odd, of_fields, of_bits, to_bits, down_pos, HasValue}
use Rattle.float64.proofs.Floats.{odd_sign, div_same, of_bits-to_bits}
use Rattle.map_form.specs.Hundredths.{at_most}
use Rattle.map_form.specs.Written.{nearest_to, hundredths_of}

ruleset ring = (mul_assoc, mul_comm, mul_left_comm, mul-add, add-mul)

-- ---- the nearest count from a float's value
pub count_by_value : (x : Float) (s : Bool) (a c : ℕ) → 0 < c → HasValue x s a c → hundredths_of x ≡ nearest_to (a * 360000) c
unfolding hundredths_of
count_by_value nan s a c p v = absurd v
count_by_value (inf t) s a c p v = absurd v
count_by_value (fin t m e) s a c p v = go (m * up e) (down e) (down_pos e) v.1
  where
    go : (A d : ℕ) → 0 < d → A * c ≡ a * d → nearest_to (A * 360000) d ≡ nearest_to (a * 360000) c
    go A d q e = div_same (2 * (A * 360000) + d) (2 * d) (2 * (a * 360000) + c) (2 * c) (omega arith) (omega arith)
        (simp ring (omega (arith, simp ring at e)))

pub size_by_value : (x : Float) (s : Bool) (n a c : ℕ) → at_most n x ≡ true → HasValue x s a c → a ≤ n * c
unfolding at_most
size_by_value nan s n a c h v = absurd v
size_by_value (inf t) s n a c h v = absurd v
size_by_value (fin t m e) s n a c h v = go (m * up e) (down e) (down_pos e) v.1 (leb-true (m * up e) (n * down e) h)
  where
    go : (A d : ℕ) → 0 < d → A * c ≡ a * d → A ≤ n * d → a ≤ n * c
    go A d q e l = le_of_mul-le-mul_right {k = d} (simp ring (omega (arith, simp ring at e, simp ring at (mul-le-mul_right c l)))) q

-- ---- the value of the exponent field E and the digits t, in units of the smallest float
abbrev pub units : ℕ → ℕ → ℕ
units zero t = t
units (suc E) t = (2 ^ 52 + t) * 2 ^ E

fields_value : (n : ℕ) (s : Bool) (E t : ℕ) → at_most n (of_fields binary64 s E t) ≡ true
    → HasValue (of_fields binary64 s E t) s (units E t) (2 ^ 1074)
unfolding of_fields at_most
fields_value n s zero t h = rw (mul-one t) at (odd_sign 53 s t 0 1074)
fields_value n s (suc E) t h = go (eqb (suc E) 2047) (eqb t 0) h
  where
    go : (a b : Bool) → at_most n (cond a (cond b (inf s) nan) (odd 53 s (2 ^ 52 + t) E 1074)) ≡ true
        → HasValue (cond a (cond b (inf s) nan) (odd 53 s (2 ^ 52 + t) E 1074)) s ((2 ^ 52 + t) * 2 ^ E) (2 ^ 1074)
    go true true h = absurd (false≢true h)
    go true false h = absurd (false≢true h)
    go false b h = odd_sign 53 s (2 ^ 52 + t) E 1074

pattern_value : (n : ℕ) (x : Float) → fits binary64 x ≡ true → at_most n x ≡ true
    → HasValue x (leb (2 ^ 63) (to_bits binary64 x)) (units (to_bits binary64 x % 2 ^ 63 / 2 ^ 52) (to_bits binary64 x % 2 ^ 52)) (2 ^ 1074)
unfolding of_bits
pattern_value n x f h =
    let b = to_bits binary64 x in
    let s = leb (2 ^ 63) b in
    let E = b % 2 ^ 63 / 2 ^ 52 in
    let t = b % 2 ^ 52 in
    let back : of_fields binary64 s E t ≡ x = of_bits-to_bits binary64 x (rw f tt) in
    rw back at (fields_value n s E t (ap (at_most n) back ∙ h))

-- ---- the arithmetic
-- below 2 ^ -22 the nearest count is 0
tiny : (u M L : ℕ) → u < M → 2 * (M * 360000) ≤ L → nearest_to (u * 360000) L ≡ 0
tiny u M L h l = div-eq_of_lt (omega arith)

few_units : (E t : ℕ) → E < 1000 → t < 2 ^ 52 → units E t < 2 ^ 1052
few_units zero t e h = lt_of_lt_of_le h (pow_mono {i = 52} {j = 1052} (lit≤ tt))
few_units (suc E) t e h =
    let m : 2 ^ 52 + t < 2 ^ 53 = omega arith in
    let k : 53 + E ≤ 1052 = omega arith in
    lt_of_lt_of_le (shl_lt 53 E m) (pow_mono k)

-- 180 has the exponent field 1030
most_units : (E t : ℕ) → units E t ≤ 180 * 2 ^ 1074 → E ≤ 1030
most_units zero t h = lit≤ tt
most_units (suc E) t h = omega (arith, low)
  where
    low : 1030 ≤ E → ⊥
    low l =
        let room : 2 ^ 52 ≤ 2 ^ 52 + t = omega arith in
        not-le_of_lt (lit< tt) (le_trans (mul-le-mul room (pow_mono l)) h)

-- half of one more than the whole part of 2 * a / d, d = 2 * r
halved : (a r : ℕ) → 0 < r → nearest_to a (2 * r) ≡ (a / r + 1) / 2
halved a r p =
    let u : 2 * a + 2 * r ≡ 2 * (a + r) = omega arith in
    let v : 2 * (2 * r) ≡ 2 * (r * 2) = omega arith in
    rw (u, v)
    (mul-div-mul_left (a + r) (r * 2) (lit< tt) ∙ sym (div-div-eq-div-mul (a + r) r 2) ∙ ap (λ (z : ℕ). z / 2) (add-div_right a p))

-- a common factor cancels
reduced : (a d k : ℕ) → 0 < k → nearest_to (a * k) (d * k) ≡ nearest_to a d
reduced a d k p =
    let u : 2 * (a * k) + d * k ≡ (2 * a + d) * k = omega arith in
    let v : 2 * (d * k) ≡ 2 * d * k = omega arith in
    rw (u, v) (mul-div-mul_right (2 * a + d) (2 * d) p)

powers : (E : ℕ) → E ≤ 1053 → 2 ^ 1074 ≡ 2 * (2 ^ 20 * 2 ^ (1053 - E)) * 2 ^ E
powers E h =
    let w : 1 + (20 + (1053 - E)) + E ≡ 1074 = omega arith in
    ap (λ (z : ℕ). 2 ^ z) (sym w)
    ∙ pow-add 2 (1 + (20 + (1053 - E))) E
    ∙ ap (λ (z : ℕ). z * 2 ^ E) (pow-add 2 1 (20 + (1053 - E)) ∙ ap (λ (z : ℕ). 2 * z) (pow-add 2 20 (1053 - E)))

shifted : (E t : ℕ) → 0 < E → E ≤ 1030
    → nearest_to (units E t * 360000) (2 ^ 1074) ≡ ((t + 2 ^ 52) * 360000 / 2 ^ 20 / 2 ^ (1054 - E) + 1) / 2
shifted zero t p h = absurd (omega arith)
shifted (suc E) t p h =
    let m = 2 ^ 52 + t in
    let r = 2 ^ 20 * 2 ^ (1053 - E) in
    let k : 1053 - E ≡ 1054 - suc E = omega arith in
    ap (λ (z : ℕ). nearest_to (m * 2 ^ E * 360000) z) (powers E (omega arith))
    ∙ ap (λ (z : ℕ). nearest_to z (2 * r * 2 ^ E)) (simp ring (omega arith))
    ∙ reduced ((t + 2 ^ 52) * 360000) (2 * r) (2 ^ E) (pow_pos E)
    ∙ halved ((t + 2 ^ 52) * 360000) r (mul-pos (pow_pos 20) (pow_pos (1053 - E)))
    ∙ ap (λ (z : ℕ). (z + 1) / 2) (sym (div-div-eq-div-mul ((t + 2 ^ 52) * 360000) (2 ^ 20) (2 ^ (1053 - E))))
    ∙ ap (λ (z : ℕ). ((t + 2 ^ 52) * 360000 / 2 ^ 20 / 2 ^ z + 1) / 2) k

-- ---- what the code computes from the pattern
module _ (x : Float) (f : fits binary64 x ≡ true) (h : at_most 180 x ≡ true) where
  pub highest-field : to_bits binary64 x % 2 ^ 63 / 2 ^ 52 ≤ 1030
  highest-field =
      let b = to_bits binary64 x in
      most_units (b % 2 ^ 63 / 2 ^ 52) (b % 2 ^ 52)
      (size_by_value x (leb (2 ^ 63) b) 180 (units (b % 2 ^ 63 / 2 ^ 52) (b % 2 ^ 52)) (2 ^ 1074) h (pattern_value 180 x f h))

  pub from-units : hundredths_of x ≡ nearest_to (units (to_bits binary64 x % 2 ^ 63 / 2 ^ 52) (to_bits binary64 x % 2 ^ 52) * 360000) (2 ^ 1074)
  from-units =
      let b = to_bits binary64 x in
      count_by_value x (leb (2 ^ 63) b) (units (b % 2 ^ 63 / 2 ^ 52) (b % 2 ^ 52)) (2 ^ 1074) (pow_pos 1074) (pattern_value 180 x f h)

  pub none : to_bits binary64 x % 2 ^ 63 / 2 ^ 52 < 1000 → 0 ≡ hundredths_of x
  none l =
      let b = to_bits binary64 x in
      let t : b % 2 ^ 52 < 2 ^ 52 = omega arith in
      sym (from-units ∙ tiny (units (b % 2 ^ 63 / 2 ^ 52) (b % 2 ^ 52)) (2 ^ 1052) (2 ^ 1074)
      (few_units (b % 2 ^ 63 / 2 ^ 52) (b % 2 ^ 52) l t) (lit≤ tt))

  pub some : 1000 ≤ to_bits binary64 x % 2 ^ 63 / 2 ^ 52 → (n : ℕ) → n ≡ (to_bits binary64 x % 2 ^ 63 % 2 ^ 52 + 2 ^ 52) * 360000 / 2 ^ 20
      → (n / 2 ^ (1054 - to_bits binary64 x % 2 ^ 63 / 2 ^ 52) + 1) / 2 ≡ hundredths_of x
  some l n e =
      let b = to_bits binary64 x in
      let t : b % 2 ^ 63 % 2 ^ 52 ≡ b % 2 ^ 52 = omega arith in
      rw (e, t) (sym (from-units ∙ shifted (b % 2 ^ 63 / 2 ^ 52) (b % 2 ^ 52) (omega arith) highest-field))
