-- The root is the float that is nearest to the exact root: specs/Nearest.antt's `SqrtIsNearest`.
-- In units of w = 2 ^ j the exact root is √M and the float is s, where s * (s - 1) < M ≤ s * (s + 1). Another float is either a multiple of
-- w, and then the middle is at most s - 1/2 or at least s + 1/2; or it is below 2 ^ 52 * w, where floats are closer to each other, and then
-- s is at least 2 ^ 52.
use Rattle.prelude.proofs.Logic.{◌≡◌, refl, sym, ap, ◌∙◌, subst, Bool, true, false, ◌⊎◌, inl, inr, ℕ, zero, suc, ◌+◌, ◌-◌, ◌*◌, ◌/◌, ◌%◌}
use Rattle.prelude.proofs.Logic.{◌^◌, ◌≤◌, ◌<◌, le_trans, le-add_left, lt_irrefl, lt_of_not-le, not-le_of_lt, zero-lt-suc, zero-mul}
use Rattle.prelude.proofs.Logic.{suc-mul, le_of_lt, lt_of_le_of_lt, lt_of_lt_of_le, lt_of_mul-lt-mul_right, mul_assoc, mul_comm}
use Rattle.prelude.proofs.Logic.{mul_left_comm, add-mul, mul-le-mul, mul-le-mul_right, mul-lt-mul_of_pos_right, arith, leb, pow-add}
use Rattle.prelude.proofs.Logic.{pow_pos, pow_mono, leb-true, leb-false}
use Rattle.prelude.proofs.Ieee.{binary64, units}
use Rattle.fdlibm_root.specs.Root.{whole_root, sqrt_of}
use Rattle.fdlibm_root.proofs.RootLaws.{whole_root_lem}
use Rattle.fdlibm_root.specs.Nearest.{SqrtIsNearest}
use Rattle.fdlibm_root.proofs.Squares.{rounded}
use Rattle.fdlibm_root.proofs.Rounding.{units_value}
use Rattle.fdlibm_root.proofs.Sticky.{square_above, square-below, square-within, odd_below, odd_above, near_digits, rounded_units}
use Rattle.fdlibm_root.proofs.Scaled.{halved, doubled}
use Rattle.fdlibm_root.proofs.Patterns.{value_root}
use Rattle.fdlibm_root.proofs.Significand.{written, bounded, widened, multiple}

-- ---- which side of the middle
split : (a b : ℕ) → (a ≤ b) ⊎ (b < a)
split a b = go (leb a b) refl
  where
    go : (t : Bool) → leb a b ≡ t → (a ≤ b) ⊎ (b < a)
    go true e = inl (leb-true a b e)
    go false e = inr (leb-false a b e)

module _ (s M : ℕ) (low : s * s < M + s) (high : M ≤ s * s + s) where
  under : (t : ℕ) → t + 1 ≤ 2 * s → t * t < 4 * M
  under t h =
      let v = 2 * s - 1 in let odd : v + 1 ≡ 2 * s = omega arith in let t_le : t ≤ v = omega arith in
      lt_of_le_of_lt (mul-le-mul t_le t_le) (odd_below s v M odd low)

  over : (t : ℕ) → 2 * s + 1 ≤ t → 4 * M < t * t
  over t h = lt_of_lt_of_le (odd_above s M high) (mul-le-mul h h)

  -- the middle between s and k is at most √M, for a k that is at most s and at most √M
  under-least : (k : ℕ) → k ≤ s → k * k ≤ M → (s + k) * (s + k) ≤ 4 * M
  under-least k k_le least =
      elim (split s k) [
        | inl g ↦ let e : s ≡ k = omega arith in rw e (omega arith)
        | inr g ↦ le_of_lt (under (s + k) (omega arith))
      ]

  module _ (k w n : ℕ) (w_pos : 0 < w) (k_le : k ≤ s) (least : k * k ≤ M) (is : n ≡ 4 * M * (w * w)) where
    multiple-below : (u : ℕ) → u * w < s * w → (s * w + u * w) * (s * w + u * w) < n
    multiple-below u h =
        let u_lt : u < s = lt_of_mul-lt-mul_right w h in
        rw (← add-mul s u w) (square_above M w n w_pos is (s + u) (under (s + u) (omega arith)))

    multiple-above : (u : ℕ) → s * w < u * w → n < (s * w + u * w) * (s * w + u * w)
    multiple-above u h =
        let u_gt : s < u = lt_of_mul-lt-mul_right w h in
        rw (← add-mul s u w) (square-below M w n w_pos is (s + u) (over (s + u) (omega arith)))

    finer-below : (b : ℕ) → b < k * w → (s * w + b) * (s * w + b) < n
    finer-below b h =
        let t = s * w + b in let T' = (s + k) * w in let less : t < T' = rw (add-mul s k w) (omega arith) in
        let square : t * t < T' * T' = squares t T' less in
        lt_of_lt_of_le square (square-within M w n w_pos is (s + k) (under-least k k_le least))
      where
        squares : (a b : ℕ) → a < b → a * a < b * b
        squares a b h = lt_of_le_of_lt (mul-le-mul_right a (le_of_lt h)) (lesser a b h)
          where
            lesser : (a b : ℕ) → a < b → b * a < b * b
            lesser a b h = rw (mul_comm b a) (mul-lt-mul_of_pos_right h (omega arith))

    side : (b : ℕ) → (k * w ≤ b → (u : ℕ) × (b ≡ u * w))
        → ((b < s * w → (s * w + b) * (s * w + b) < n) × (s * w < b → n < (s * w + b) * (s * w + b)))
    side b whole =
        elim (split (k * w) b) [
          | inl g ↦ let u = whole g in rw u.1 (multiple-below u.0, multiple-above u.0)
          | inr g ↦ (λ h. finer-below b g, λ h. absurd (far g h))
        ]
      where
        far : {b : ℕ} → b < k * w → s * w < b → ⊥
        far g h = let a : k * w ≤ s * w = mul-le-mul_right w k_le in omega arith

-- ---- the exponents: x is q * 2 ^ k smallest floats, and D * 2 ^ (E - 898) is that times 2 ^ 126 for a D of 53 digits
moved : (q k p : ℕ) → p < 53 → q * 2 ^ p * 2 ^ (k + 1024 - p - 898) ≡ q * 2 ^ k * 2 ^ 126
moved q k p h =
    let exponent : p + (k + 1024 - p - 898) ≡ k + 126 = omega arith in
    mul_assoc q (2 ^ p) (2 ^ (k + 1024 - p - 898))
    ∙ ap (λ (z : ℕ). q * z) (sym (pow-add 2 p (k + 1024 - p - 898)) ∙ ap (λ (z : ℕ). 2 ^ z) exponent ∙ pow-add 2 k 126)
    ∙ sym (mul_assoc q (2 ^ k) (2 ^ 126))

ruleset ring = (mul_assoc, mul_comm, mul_left_comm)

-- in units of w = P * c
scaled : (A M P c d w : ℕ) → A ≡ 4 * M * (P * P) → d * 4 ≡ c * c → w ≡ P * c → 4 * (A * d) ≡ 4 * M * (w * w)
scaled A M P c d w e f g =
    let left : 4 * (A * d) ≡ 4 * M * (P * P) * (d * 4) = rw e (simp ring) in
    left ∙ ap (λ (z : ℕ). 4 * M * (P * P) * z) f ∙ sym (rw g (simp ring))

-- the float's whole number is not 0, and its exponent is small
places_small : (a q k : ℕ) → a ≡ q * 2 ^ k → 0 < a → a < 2 ^ 2098 → (0 < q) × (k < 2098)
places_small a zero k e some small = absurd (lt_irrefl 0 (subst (λ (z : ℕ). 0 < z) (e ∙ zero-mul (2 ^ k)) some))
places_small a (suc q) k e some small = (zero-lt-suc q, lt_of_not-le (λ (g : 2098 ≤ k). not-le_of_lt small (rw e (large g))))
  where
    large : 2098 ≤ k → 2 ^ 2098 ≤ suc q * 2 ^ k
    large g = le_trans (pow_mono g) (rw (suc-mul q (2 ^ k)) (le-add_left (2 ^ k) (q * 2 ^ k)))

pub sqrt_is_nearest : SqrtIsNearest
sqrt_is_nearest x a fit value some =
    let x_is = written x a fit value in let q = x_is.digits in let k = x_is.places in
    let small = places_small a q k x_is.is some (bounded x a fit value) in let wide = widened q small.0 x_is.few in
    let p = wide.spare in let D = q * 2 ^ p in let E = k + 1024 - p in let m = D * (1 + E % 2) in let i = E / 2 - 476 in
    let s = (whole_root (m * 2 ^ 54) + 1) / 2 in let m_lo : 2 ^ 52 ≤ m = least D (E % 2) wide.low in
    let m_hi = doubled D (E % 2) wide.high (omega arith) in
    let near = rounded m (whole_root (m * 2 ^ 54)) s (omega arith) (whole_root_lem (m * 2 ^ 54)) refl in
    let d = near_digits m s i near m_lo m_hi (omega (arith, small.1)) in let w = 2 ^ (i + 475) in
    let is : a * 2 ^ 126 ≡ 4 * (m * 2 ^ 52) * (2 ^ i * 2 ^ i) =
    ap (λ (z : ℕ). z * 2 ^ 126) x_is.is ∙ sym (moved q k p wide.few) ∙ halved D E i (omega (arith, wide.few)) refl in
    let root : sqrt_of x ≡ units binary64 false s (i + 475) = value_root x a some value ∙ rounded_units m s i (a * 2 ^ 126) near m_lo d is in
    let square : 4 * (a * 2 ^ 1074) ≡ 4 * (m * 2 ^ 52) * (w * w) =
    ap (λ (z : ℕ). 4 * z) (sym (mul_assoc a (2 ^ 126) (2 ^ 948)))
    ∙ scaled (a * 2 ^ 126) (m * 2 ^ 52) (2 ^ i) (2 ^ 475) (2 ^ 948) w is refl (pow-add 2 i 475) in
    record {
      size = s * w;
      value = rw root (units_value s (i + 475) d);
      nearest = λ y b y-fit y-value.
          let sides = side s (m * 2 ^ 52) near.low near.high (2 ^ 52) w (4 * (a * 2 ^ 1074)) (pow_pos (i + 475)) d.low
          (mul-le-mul_right (2 ^ 52) m_lo) square b (multiple b (i + 475) (written y b y-fit y-value)) in
          record { from_below = sides.0; from_above = sides.1 };
    }
  where
    least : (D o : ℕ) → 2 ^ 52 ≤ D → 2 ^ 52 ≤ D * (1 + o)
    least D o h = omega arith
