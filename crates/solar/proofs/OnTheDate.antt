-- An hour number above 1 and below 24 is normal. Its floored hours are an hour of the date, a whole number that a cast does not change.
-- Assumes nothing.
use Rattle.prelude.proofs.Logic.{◌≡◌, refl, sym, ap, ◌∙◌, true, false, true≢false, false≢true, ℕ, ◌*◌, ◌/◌, ◌%◌, ◌^◌, ◌≤◌, ◌<◌}
use Rattle.prelude.proofs.Logic.{mul-div_cancel, mul-le-mul_left, div-add-mod', div-lt_iff_lt-mul, arith, T, lit<, ℤ, pow_pos, ltb-true}
use Rattle.prelude.proofs.Logic.{le-ltb, lt-ltb, le-leb}
use Rattle.float64.proofs.Floats.{Float, nan, inf, fin, binary64, up, down, round, whole, in_unsigned, to_unsigned, lt, HasValue, down_pos}
use Rattle.float64.proofs.Floats.{dec, is_normal_of, floor_of, whole_part, lt_values}
use Rattle.solar.specs.Setting.{hour_adjustment_of}
use Rattle.solar.proofs.Taken.{zero_value, day_value, floor_up}

-- ---- a float between two whole numbers
module _ (P : Float → Type 0) (a b : ℕ) (low high : Float) (v : HasValue low false a 1) (w : HasValue high false b 1)
    (g : (m : ℕ) (e : ℤ) → a * down e < m * up e → m * up e < b * down e → P (fin false m e)) where
  between : (x : Float) → lt low x ≡ true → lt x high ≡ true → P x
  unfolding lt
  between x h k = go x low high v w h k
    where
      go : (x low high : Float) → HasValue low false a 1 → HasValue high false b 1 → lt low x ≡ true → lt x high ≡ true → P x
      go nan (fin s m e) high v w h k = absurd (false≢true h)
      go (inf true) (fin s m e) high v w h k = absurd (false≢true h)
      go (inf false) low (fin s m e) v w h k = absurd (false≢true k)
      go (fin true m e) (fin true n d) high v w h k = absurd (true≢false v.0)
      go (fin true m e) (fin false n d) high v w h k = absurd (false≢true h)
      go nan nan high v w h k = elim v [ ]
      go nan (inf _) high v w h k = elim v [ ]
      go (inf false) low nan v w h k = elim w [ ]
      go (inf false) low (inf _) v w h k = elim w [ ]
      go (inf true) nan high v w h k = elim v [ ]
      go (inf true) (inf _) high v w h k = elim v [ ]
      go (fin true m e) nan high v w h k = elim v [ ]
      go (fin true m e) (inf _) high v w h k = elim v [ ]
      go (fin false m e) low high v w h k =
          let l = ltb-true (a * down e) (m * up e * 1)
          (sym (lt_values low (fin false m e) a (m * up e) 1 (down e) (lit< tt) (down_pos e) v (refl, refl)) ∙ h) in
          let u = ltb-true (m * up e * 1) (b * down e)
          (sym (lt_values (fin false m e) high (m * up e) b (down e) 1 (down_pos e) (lit< tt) (refl, refl) w) ∙ k) in
          g m e (omega arith) (omega arith)

-- ---- a cast does not change a whole number
whole_cast : (x : Float) (n : ℕ) → HasValue x false n 1 → n < 2 ^ 32 → T (in_unsigned binary64 32 x)
unfolding whole in_unsigned
whole_cast nan n v h = absurd v
whole_cast (inf s) n v h = absurd v
whole_cast (fin true m e) n v h = absurd (true≢false v.0)
whole_cast (fin false m e) n v h =
    let d = down_pos e in
    let q : m * up e ≡ n * down e = omega (arith, v.1) in
    let c : m * up e / down e ≡ n = ap (λ (i : ℕ). i / down e) q ∙ mul-div_cancel n d in
    let r : m * up e % down e ≡ 0 = omega (arith, div-add-mod' (m * up e) (down e), ap (λ (i : ℕ). i * down e) c) in
    rw (c, r, le-leb n (2 ^ 53) (omega arith), lt-ltb n (2 ^ 32) h) tt

-- ---- the hours
one_value : HasValue (dec 1 0) false 1 1
unfolding dec round
one_value = (refl, refl)

more : (a d w : ℕ) → 0 < w → d < a → d ≤ a * w
more a d w p h = let z = mul-le-mul_left a p in omega arith

pub normal : (value : Float) → lt (dec 1 0) value ≡ true → lt value (dec 24 0) ≡ true → is_normal_of value ≡ true
unfolding is_normal_of
normal = between (λ x. is_normal_of x ≡ true) 1 24 (dec 1 0) (dec 24 0) one_value day_value
    (λ m e l u. le-leb (down e) (m * up e * 2 ^ 1022) (more (m * up e) (down e) (2 ^ 1022) (pow_pos 1022) (omega arith)))

hours_value : (m : ℕ) (e : ℤ) → m * up e < 24 * down e → HasValue (floor_of (fin false m e)) false (whole_part m e) 1 × (whole_part m e < 24)
hours_value m e u =
    let k : whole_part m e < 24 = (div-lt_iff_lt-mul (down_pos e)).1 u in
    (floor_up m e (omega arith), k)

pub hours_cast : (value : Float) → lt (dec 1 0) value ≡ true → lt value (dec 24 0) ≡ true → T (in_unsigned binary64 32 (floor_of value))
hours_cast =
    between (λ x. T (in_unsigned binary64 32 (floor_of x))) 1 24 (dec 1 0) (dec 24 0) one_value day_value
    (λ m e l u. let v = hours_value m e u in whole_cast (floor_of (fin false m e)) (whole_part m e) v.0 (omega (arith, v.1)))

pub placed : (value : Float) → lt (dec 1 0) value ≡ true → lt value (dec 24 0) ≡ true
    → hour_adjustment_of (floor_of value) ≡ record { ahead = 1; hour = to_unsigned 32 (floor_of value) }
unfolding hour_adjustment_of
placed =
    between (λ x. hour_adjustment_of (floor_of x) ≡ record { ahead = 1; hour = to_unsigned 32 (floor_of x) }) 1 24 (dec 1 0)
    (dec 24 0) one_value day_value at
  where
    at : (m : ℕ) (e : ℤ) → 1 * down e < m * up e → m * up e < 24 * down e
        → hour_adjustment_of (floor_of (fin false m e)) ≡ record { ahead = 1; hour = to_unsigned 32 (floor_of (fin false m e)) }
    at m e l u =
        let v = hours_value m e u in
        let y = floor_of (fin false m e) in
        let k = whole_part m e in
        let a : lt y (dec 0 0) ≡ false = lt_values y (dec 0 0) k 0 1 1 (lit< tt) (lit< tt) v.0 zero_value
        ∙ le-ltb (k * 1) (0 * 1) (omega arith) in
        let b : lt y (dec 24 0) ≡ true = lt_values y (dec 24 0) k 24 1 1 (lit< tt) (lit< tt) v.0 day_value
        ∙ lt-ltb (k * 1) (24 * 1) (omega (arith, v.1)) in
        rw (a, b)
