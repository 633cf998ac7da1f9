-- `round` gives s for a number in the binade of s and within half a unit of s; and the pattern of that float.
use Rattle.prelude.proofs.Logic.{◌≡◌, sym, ap, ◌∙◌, subst, true, false, not, true≢false, ℕ, ◌+◌, ◌-◌, ◌*◌, ◌/◌, ◌%◌, ◌^◌, ◌≤◌, ◌<◌, compare}
use Rattle.prelude.proofs.Logic.{Ordering, Ordering·lt, Ordering·eq, Ordering·gt, lt_of_lt_of_le, lt_of_not-le, not-le_of_lt}
use Rattle.prelude.proofs.Logic.{lt_of_mul-lt-mul_right, mul_assoc, mul-pos, mul-div_cancel, mul-le-mul_right, div-add-mod', mod-lt, arith}
use Rattle.prelude.proofs.Logic.{T, is_le, compare_is_eq, leb→le, nleb→lt, eqb→eq, eqb_refl, eqb, pow-add, pow_pos, pow_mono, shl_lt}
use lib.Arith.{lt_of_le-ne}
use Rattle.prelude.proofs.Ieee.{nan, inf, Float, fin, binary64, up, down, size, nearest, units, round, fits, to_bits, of_bits, size-lt, size-le}
use Rattle.prelude.proofs.Ieee.{round_is, down_pos, closest, closest_same, HasValue, units_val, of_bits-to_bits}

-- ---- the whole number nearest to a / b
abbrev Compared : Ordering → ℕ → ℕ → Type 0
Compared Ordering·lt a b = a < b
Compared Ordering·eq a b = a ≡ b
Compared Ordering·gt a b = b < a

compared : (a b : ℕ) → Compared (compare a b) a b
compared a b = go (compare a b) (leb→le a b) (nleb→lt a b) (eqb→eq a b) (λ (e : a ≡ b). subst (λ (x : ℕ). T (eqb a x)) e (eqb_refl a))
  where
    go : (o : Ordering) → (T (is_le o) → a ≤ b) → (T (not (is_le o)) → b < a) → (T (compare_is_eq o) → a ≡ b) → (a ≡ b → T (compare_is_eq o)) → Compared o a b
    go Ordering·lt h k e n = lt_of_le-ne (h tt) n
    go Ordering·eq h k e n = e tt
    go Ordering·gt h k e n = k tt

-- q * b + t is a, which is within half of b of s * b
nearest_is : (q t b s : ℕ) (o : Ordering) → Compared o (t * 2) b → t < b
    → 2 * s * b < 2 * (q * b + t) + b → 2 * (q * b + t) < 2 * s * b + b → nearest q o ≡ s
nearest_is q t b s Ordering·lt c r lo hi =
    let x : 2 * s * b < (2 * q + 2) * b = omega arith in let y : 2 * q * b < (2 * s + 1) * b = omega arith in
    let x' : 2 * s < 2 * q + 2 = lt_of_mul-lt-mul_right b x in let y' : 2 * q < 2 * s + 1 = lt_of_mul-lt-mul_right b y in
    omega arith
nearest_is q t b s Ordering·eq c r lo hi =
    let x : 2 * s * b < (2 * q + 2) * b = omega arith in let y : (2 * q + 1) * b < (2 * s + 1) * b = omega arith in
    let x' : 2 * s < 2 * q + 2 = lt_of_mul-lt-mul_right b x in let y' : 2 * q + 1 < 2 * s + 1 = lt_of_mul-lt-mul_right b y in
    absurd (clash x' y')
  where
    clash : 2 * s < 2 * q + 2 → 2 * q + 1 < 2 * s + 1 → ⊥
    clash g h = omega arith
nearest_is q t b s Ordering·gt c r lo hi =
    let x : 2 * s * b < (2 * q + 3) * b = omega arith in let y : (2 * q + 1) * b < (2 * s + 1) * b = omega arith in
    let x' : 2 * s < 2 * q + 3 = lt_of_mul-lt-mul_right b x in let y' : 2 * q + 1 < 2 * s + 1 = lt_of_mul-lt-mul_right b y in
    omega arith

closest_is : (a b s : ℕ) → 0 < b → 2 * s * b < 2 * a + b → 2 * a < 2 * s * b + b → closest a b ≡ s
closest_is a b s B lo hi =
    let whole : a / b * b + a % b ≡ a = div-add-mod' a b in
    nearest_is (a / b) (a % b) b s (compare (a % b * 2) b) (compared (a % b * 2) b) (mod-lt a B)
    (rw whole lo) (rw whole hi)

-- ---- rounding U units of the smallest float drops j digits
dropped : (n j : ℕ) → 2 ^ (52 + j) ≤ n → n < 2 ^ (53 + j) → size n - 53 ≡ j
dropped n j lo hi =
    let most : size n ≤ 53 + j = size-le n (53 + j) hi in
    let least : 52 + j < size n = lt_of_not-le (λ (g : size n ≤ 52 + j). not-le_of_lt (lt_of_lt_of_le (size-lt n) (pow_mono g)) lo) in
    omega arith

pub round_to : (U D s j : ℕ) → D ≡ 2 ^ 1074 → 2 ^ (52 + j) ≤ U → U < 2 ^ (53 + j) → 2 * s * 2 ^ j < 2 * U + 2 ^ j
    → 2 * U < 2 * s * 2 ^ j + 2 ^ j
    → round binary64 false U D ≡ units binary64 false s j
round_to U D s j e lo hi near_lo near_hi =
    let P : 0 < D = rw e (pow_pos 1074) in let whole : U * 2 ^ 1074 / D ≡ U = rw (← e) (mul-div_cancel U P) in
    let k : size (U * 2 ^ 1074 / D) - 53 ≡ j = ap (λ (z : ℕ). size z - 53) whole ∙ dropped U j lo hi in
    let scaled : U * 2 ^ 1074 * 2 ^ j ≡ U * (D * 2 ^ j) = rw (← e) (mul_assoc U D (2 ^ j)) in
    round_is binary64 false U D
    ∙ ap (λ (z : ℕ). units binary64 false (closest (U * 2 ^ 1074) (D * 2 ^ z)) z) k
    ∙ ap (λ (z : ℕ). units binary64 false z j)
    (closest_same (U * 2 ^ 1074) (D * 2 ^ j) U (2 ^ j) (mul-pos P (pow_pos j)) (pow_pos j) scaled
    ∙ closest_is U (2 ^ j) s (pow_pos j) near_lo near_hi)

-- ---- the pattern of s * 2 ^ j units of the smallest float, for an s of 53 digits
pattern_is : (v : Float) (s j : ℕ) → 2 ^ (52 + j) ≤ s * 2 ^ j → s * 2 ^ j < 2 ^ (53 + j) → HasValue v false (s * 2 ^ j) (2 ^ 1074)
    → to_bits binary64 v ≡ j * 2 ^ 52 + s
unfolding to_bits
pattern_is (fin false m e) s j lo hi v =
    let n : m * up e * 2 ^ 1074 / down e ≡ s * 2 ^ j = ap (λ (z : ℕ). z / down e) v.1 ∙ mul-div_cancel (s * 2 ^ j) (down_pos e) in
    let k : size (s * 2 ^ j) - 53 ≡ j = dropped (s * 2 ^ j) j lo hi in
    ap (λ (z : ℕ). 0 + (size z - 53) * 2 ^ 52 + z / 2 ^ (size z - 53)) n
    ∙ ap (λ (z : ℕ). 0 + z * 2 ^ 52 + s * 2 ^ j / 2 ^ z) k
    ∙ ap (λ (z : ℕ). 0 + j * 2 ^ 52 + z) (mul-div_cancel s (pow_pos j))
    ∙ tidy (j * 2 ^ 52) s
  where
    tidy : (a b : ℕ) → 0 + a + b ≡ a + b
    tidy a b = omega arith
pattern_is (fin true m e) s j lo hi v = absurd (true≢false v.0)
pattern_is nan s j lo hi v = elim v [ ]
pattern_is (inf _) s j lo hi v = elim v [ ]

-- s has all 53 digits, and j is small enough: s * 2 ^ j is a float's size
pub record FullWidth (s j : ℕ) : Type 0 where
  pub low : 2 ^ 52 ≤ s
  pub high : s < 2 ^ 53
  pub room : j < 2045

pub units_value : (s j : ℕ) → FullWidth s j → HasValue (units binary64 false s j) false (s * 2 ^ j) (2 ^ 1074)
units_value s j d = units_val binary64 false s j (lt_of_lt_of_le (shl_lt 53 j d.high) (pow_mono (fewer j d.room)))
  where
    fewer : (j : ℕ) → j < 2045 → 53 + j ≤ 2098
    fewer j h = omega arith

pub units_pattern : (s j : ℕ) → FullWidth s j → T (fits binary64 (units binary64 false s j))
    → units binary64 false s j ≡ of_bits binary64 (j * 2 ^ 52 + s)
units_pattern s j d fine =
    let bottom : 2 ^ (52 + j) ≤ s * 2 ^ j = rw (pow-add 2 52 j) (mul-le-mul_right (2 ^ j) d.low) in
    sym (of_bits-to_bits binary64 (units binary64 false s j) fine)
    ∙ ap (of_bits binary64) (pattern_is (units binary64 false s j) s j bottom (shl_lt 53 j d.high) (units_value s j d))
