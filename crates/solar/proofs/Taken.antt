-- The date that an hour number takes, from the number itself, and its hour of that date. For every number that has a time the hour is at
-- most 23, so the sum with minute 60 is at most 24. Assumes nothing.
use Rattle.prelude.proofs.Logic.{◌≡◌, refl, sym, ap, subst, ◌∙◌, Bool, true, false, cond, ◌&&◌, ◌||◌, true≢false, false≢true, ℕ, suc, ◌+◌}
use Rattle.prelude.proofs.Logic.{◌-◌, ◌*◌, ◌/◌, ◌^◌, ◌≤◌, ◌<◌, div-one, min-eq_left, div-add-mod', mod-lt, mul-one, mul-le-mul_right}
use Rattle.prelude.proofs.Logic.{lt_of_mul-lt-mul_right, div-lt_iff_lt-mul, arith, ltb, eqb, lit<, ℤ, pos, ltb-true, ltb-false, lt-ltb}
use Rattle.prelude.proofs.Logic.{le-ltb, eqb-true, eqb-false}
use Rattle.float64.proofs.Floats.{Float, nan, inf, fin, binary64, up, down, round, of_int, neg, sum, add, sub, le, lt, eq, to_unsigned}
use Rattle.float64.proofs.Floats.{HasValue, round_whole, round_same, down_pos, dec, floor_of, whole_part, fraction, big, lt_values, sub_same}
use Rattle.float64.proofs.Floats.{whole_value}
use Rattle.solar.specs.declared.setting.Placed.{Placed}
use Rattle.solar.specs.Setting.{hour_adjustment_of}
use Rattle.solar.specs.PastMidnight.{has_time_of}
use Rattle.solar.specs.Promises.{date_taken}
use Rattle.solar.proofs.PastMidnightLaws.{taken_of}

-- ---- the limits
pub zero_value : HasValue (dec 0 0) false 0 1
unfolding dec round
zero_value = (refl, refl)

pub day_value : HasValue (dec 24 0) false 24 1
unfolding dec round
day_value = (refl, refl)

pub both : (a b : Bool) → a && b ≡ true → (a ≡ true) × (b ≡ true)
both true true h = (refl, refl)
both true false h = absurd (false≢true h)
both false b h = absurd (false≢true h)

either : (a b : ℕ) (t : Bool) → ltb a b || (eqb b a && t) ≡ true → a ≤ b
either a b t h = go (ltb a b) (eqb b a) refl refl h
  where
    go : (u v : Bool) → ltb a b ≡ u → eqb b a ≡ v → u || (v && t) ≡ true → a ≤ b
    go true v l e h = omega (arith, ltb-true a b l)
    go false true l e h = omega (arith, eqb-true b a e)
    go false false l e h = absurd (false≢true h)

low_limit : (m : ℕ) (e : ℤ) → has_time_of (fin true m e) ≡ true → m * up e ≤ 24 * down e
unfolding has_time_of dec round neg le lt eq
low_limit m e h = omega (arith, either (m * up e * 1) (3 * 2 ^ 3 * down e) true (both _ _ h).0)

high_limit : (m : ℕ) (e : ℤ) → has_time_of (fin false m e) ≡ true → m * up e < 48 * down e
unfolding has_time_of dec round neg le lt eq
high_limit m e h = omega (
  arith,
  ltb-true (m * up e * 1) (3 * 2 ^ 4 * down e) (both (le (neg (dec 24 0)) (fin false m e)) (ltb (m * up e * 1) (3 * 2 ^ 4 * down e)) h).1,
)

-- ---- floors
pub floor_up : (m : ℕ) (e : ℤ) → whole_part m e ≤ big → HasValue (floor_of (fin false m e)) false (whole_part m e) 1
unfolding floor_of of_int
floor_up m e h = go (eqb (fraction m e) 0) refl
  where
    go : (b : Bool) → eqb (fraction m e) 0 ≡ b
        → HasValue (cond b (fin false m e) (round binary64 false (whole_part m e) 1)) false (whole_part m e) 1
    go true z = (refl, omega (arith, div-add-mod' (m * up e) (down e), eqb-true (fraction m e) 0 z))
    go false z = round_whole binary64 false (whole_part m e) h

-- a float is below a whole number if and only if its whole part is
pub below_whole : (b m : ℕ) (e : ℤ) → ltb (m * up e * 1) (b * down e) ≡ ltb (whole_part m e) b
below_whole b m e = go (ltb (whole_part m e) b) refl
  where
    go : (t : Bool) → ltb (whole_part m e) b ≡ t → ltb (m * up e * 1) (b * down e) ≡ t
    go true l =
        let z : m * up e < b * down e = (div-lt_iff_lt-mul (down_pos e)).0 (ltb-true (whole_part m e) b l) in
        lt-ltb (m * up e * 1) (b * down e) (omega arith)
    go false l =
        let z : b * down e ≤ whole_part m e * down e = mul-le-mul_right (down e) (ltb-false (whole_part m e) b l) in
        le-ltb (m * up e * 1) (b * down e) (omega (arith, div-add-mod' (m * up e) (down e)))

-- the least whole number that is not below m * 2 ^ e
abbrev ceiling : ℕ → ℤ → ℕ
ceiling m e = cond (eqb (fraction m e) 0) (whole_part m e) (suc (whole_part m e))

floor_down : (m : ℕ) (e : ℤ) → suc (whole_part m e) ≤ big → HasValue (floor_of (fin true m e)) true (ceiling m e) 1
unfolding floor_of of_int
floor_down m e h = go (eqb (fraction m e) 0) refl
  where
    go : (b : Bool) → eqb (fraction m e) 0 ≡ b
        → HasValue (cond b (fin true m e) (round binary64 true (suc (whole_part m e)) 1)) true
        (cond b (whole_part m e) (suc (whole_part m e))) 1
    go true z = (refl, omega (arith, div-add-mod' (m * up e) (down e), eqb-true (fraction m e) 0 z))
    go false z = round_whole binary64 true (suc (whole_part m e)) h

ceiling_ends : (m : ℕ) (e : ℤ) → (m * up e ≤ ceiling m e * down e) × (ceiling m e * down e < m * up e + down e)
ceiling_ends m e = go (eqb (fraction m e) 0) refl
  where
    go : (b : Bool) → eqb (fraction m e) 0 ≡ b
        → (m * up e ≤ cond b (whole_part m e) (suc (whole_part m e)) * down e)
        × (cond b (whole_part m e) (suc (whole_part m e)) * down e < m * up e + down e)
    go true z =
        let g = div-add-mod' (m * up e) (down e) in
        let r = eqb-true (fraction m e) 0 z in
        (omega (arith, g, r), omega (arith, g, r, down_pos e))
    go false z =
        let g = div-add-mod' (m * up e) (down e) in
        let l = mod-lt (m * up e) (down_pos e) in
        let r : fraction m e ≡ 0 → ⊥ = eqb-false (fraction m e) 0 z in
        (omega (arith, g, l), omega (arith, g, l, r))

-- ---- whole numbers
cast_whole : (y : Float) (k : ℕ) → HasValue y false k 1 → k < 48 → to_unsigned 32 y ≡ k
unfolding to_unsigned
cast_whole nan k v h = absurd v
cast_whole (inf t) k v h = absurd v
cast_whole (fin true m e) k v h = absurd (true≢false v.0)
cast_whole (fin false m e) k v h =
    let w : m * up e / down e ≡ k = whole_value (fin false m e) false k 1 (lit< tt) v ∙ div-one k in
    rw w (min-eq_left (omega arith))

-- where a number is placed
record PlacedAs (p : Placed) (ahead hour : ℕ) : Type 0 where
  taken : p.ahead ≡ ahead
  hours : p.hour ≡ hour

place_up : (y : Float) (k : ℕ) → HasValue y false k 1 → k < 48
    → PlacedAs (hour_adjustment_of y) (cond (ltb k 24) 1 2) (cond (ltb k 24) k (k - 24))
unfolding hour_adjustment_of
place_up y k v h =
    let a : lt y (dec 0 0) ≡ false = lt_values y (dec 0 0) k 0 1 1 (lit< tt) (lit< tt) v zero_value
    ∙ le-ltb (k * 1) (0 * 1) (omega arith) in
    let b : lt y (dec 24 0) ≡ ltb k 24 = lt_values y (dec 24 0) k 24 1 1 (lit< tt) (lit< tt) v day_value
    ∙ ap (λ (n : ℕ). ltb n 24) (mul-one k) in
    rw (a, b) (go (ltb k 24) refl)
  where
    go : (t : Bool) → ltb k 24 ≡ t
        → PlacedAs (cond t (record { ahead = 1; hour = to_unsigned 32 y })
        (record { ahead = 2; hour = to_unsigned 32 (sub binary64 y (dec 24 0)) })) (cond t 1 2) (cond t k (k - 24))
    go true e = record { taken = refl; hours = cast_whole y k v h }
    go false e =
        let l = ltb-false k 24 e in
        let s = sub_same binary64 k 24 1 (lit< tt) l y (dec 24 0) v day_value in
        record {
          taken = refl;
          hours = ap (to_unsigned 32) s
              ∙ cast_whole (round binary64 false (k - 24) 1) (k - 24) (round_whole binary64 false (k - 24) (omega arith)) (omega arith);
        }

-- -a / c + b / c, for a up to b
module _ (a b c : ℕ) (h : a ≤ b) where
  sum_is : sum binary64 true a false b c ≡ round binary64 false (b - a) c
  unfolding sum
  sum_is = go (ltb a b) refl
    where
      go : (t : Bool) → ltb a b ≡ t
          → cond t (round binary64 false (b - a) c) (round binary64 (true && ltb b a) (a - b) c) ≡ round binary64 false (b - a) c
      go true e = refl
      go false e =
          let l = ltb-false a b e in
          rw (le-ltb b a h) (ap (λ (n : ℕ). round binary64 false n c) (omega arith))

-- the day that is added: 24 is 3 * 2 ^ 3
day_is : dec 24 0 ≡ fin false 3 (pos 3)
unfolding dec round
day_is = refl

zero_is : dec 0 0 ≡ fin false 0 (pos 0)
unfolding dec round
zero_is = refl

add_day : (m : ℕ) (e : ℤ) (k : ℕ) → m * up e * 1 ≡ k * down e → k ≤ 24
    → add binary64 (fin true m e) (dec 24 0) ≡ round binary64 false (24 - k) 1
unfolding add
add_day m e k v h =
    let j = 24 - k in
    let w : j + k ≡ 24 = omega arith in
    let g : (j + k) * down e ≡ 24 * down e = ap (λ (n : ℕ). n * down e) w in
    let l : m * up e * 1 ≤ 3 * 2 ^ 3 * down e = omega arith in
    let r : (3 * 2 ^ 3 * down e - m * up e * 1) * 1 ≡ j * (down e * 1) = omega arith in
    let p : 0 < down e * 1 = omega (arith, down_pos e) in
    ap (add binary64 (fin true m e)) day_is ∙ sum_is (m * up e * 1) (3 * 2 ^ 3 * down e) (down e * 1) l
    ∙ round_same binary64 false (3 * 2 ^ 3 * down e - m * up e * 1) (down e * 1) j 1 p (lit< tt) r

-- a whole number below zero
place_down : (y : Float) (k : ℕ) → HasValue y true k 1 → 0 < k → k ≤ 24 → PlacedAs (hour_adjustment_of y) 0 (24 - k)
unfolding hour_adjustment_of
place_down nan k v h g = absurd v
place_down (inf t) k v h g = absurd v
place_down (fin false m e) k v h g = absurd (false≢true v.0)
place_down (fin true m e) k v h g =
    let a : lt (fin true m e) (dec 0 0) ≡ true = ap (lt (fin true m e)) zero_is ∙ below-zero in
    rw a (record {
      taken = refl;
      hours = ap (to_unsigned 32) (add_day m e k v.1 g)
          ∙ cast_whole (round binary64 false (24 - k) 1) (24 - k) (round_whole binary64 false (24 - k) (omega arith)) (omega arith);
    })
  where
    below-zero : lt (fin true m e) (fin false 0 (pos 0)) ≡ true
    below-zero =
        let d : 1 * down e ≤ k * down e = mul-le-mul_right (down e) h in
        unfold lt in lt-ltb 0 (m * up e * 1 + 0 * down e) (omega (arith, down_pos e, v.1))

-- and -0.0
place_zero : (y : Float) → HasValue y true 0 1 → PlacedAs (hour_adjustment_of y) 1 0
unfolding hour_adjustment_of to_unsigned
place_zero nan v = absurd v
place_zero (inf t) v = absurd v
place_zero (fin false m e) v = absurd (false≢true v.0)
place_zero (fin true m e) v =
    let a : lt (fin true m e) (dec 0 0) ≡ false = ap (lt (fin true m e)) zero_is ∙ not_below in
    let b : lt (fin true m e) (dec 24 0) ≡ true = ap (lt (fin true m e)) day_is ∙ before-day in
    rw (a, b) (record { taken = refl; hours = refl })
  where
    not_below : lt (fin true m e) (fin false 0 (pos 0)) ≡ false
    not_below = unfold lt in le-ltb 0 (m * up e * 1 + 0 * down e) (omega (arith, v.1))

    before-day : lt (fin true m e) (fin false 3 (pos 3)) ≡ true
    before-day = unfold lt in lt-ltb 0 (m * up e * 1 + 3 * 2 ^ 3 * down e) (omega (arith, down_pos e))

-- ---- numbers that have a time
Right : Float → Type 0
Right value = (taken_of value ≡ date_taken value) × ((hour_adjustment_of (floor_of value)).hour < 24)

right_up : (m : ℕ) (e : ℤ) → has_time_of (fin false m e) ≡ true → Right (fin false m e)
unfolding Right
right_up m e h =
    let x = fin false m e in
    let q = whole_part m e in
    let d = down_pos e in
    let i = high_limit m e h in
    let k : q < 48 = (div-lt_iff_lt-mul d).1 i in
    let p = place_up (floor_of x) q (floor_up m e (omega arith)) k in
    let a : lt x (dec 0 0) ≡ false = lt_values x (dec 0 0) (m * up e) 0 (down e) 1 d (lit< tt) (refl, refl) zero_value
    ∙ le-ltb (m * up e * 1) (0 * down e) (omega arith) in
    let b : lt x (dec 24 0) ≡ ltb (m * up e * 1) (24 * down e) =
    lt_values x (dec 24 0) (m * up e) 24 (down e) 1 d (lit< tt) (refl, refl) day_value in
    (p.taken ∙ rw (a, b, below_whole 24 m e) refl, subst (λ (n : ℕ). n < 24) (sym p.hours) (hour-less q k))
  where
    hour-less : (q : ℕ) → q < 48 → cond (ltb q 24) q (q - 24) < 24
    hour-less q k = go (ltb q 24) refl
      where
        go : (t : Bool) → ltb q 24 ≡ t → cond t q (q - 24) < 24
        go true l = ltb-true q 24 l
        go false l = omega (arith, ltb-false q 24 l)

right_down : (m : ℕ) (e : ℤ) → has_time_of (fin true m e) ≡ true → Right (fin true m e)
unfolding Right
right_down m e h = go (ltb 0 (m * up e * 1 + 0 * down e)) refl
  where
    x : Float
    x = fin true m e

    i : m * up e ≤ 24 * down e
    i = low_limit m e h

    k : whole_part m e < 25
    k = let d = down_pos e in let z : m * up e < 25 * down e = omega (arith, i) in (div-lt_iff_lt-mul d).1 z

    v : HasValue (floor_of x) true (ceiling m e) 1
    v = floor_down m e (omega (arith, k))

    go : (t : Bool) → ltb 0 (m * up e * 1 + 0 * down e) ≡ t → Right x
    go true l =
        let a = ltb-true 0 (m * up e * 1 + 0 * down e) l in
        let b = ceiling_ends m e in
        let s : 0 < ceiling m e = lt_of_mul-lt-mul_right (down e) {m = 0} {n = ceiling m e} (omega (arith, b.0)) in
        let z : ceiling m e < 25 = lt_of_mul-lt-mul_right (down e) {m = ceiling m e} {n = 25} (omega (arith, b.1, i)) in
        let p = place_down (floor_of x) (ceiling m e) v s (omega arith) in
        let t : lt x (dec 0 0) ≡ true = ap (lt x) zero_is ∙ (unfold lt in l) in
        (p.taken ∙ rw t refl, subst (λ (n : ℕ). n < 24) (sym p.hours) (omega arith))
    go false l =
        let a = ltb-false 0 (m * up e * 1 + 0 * down e) l in
        let b = ceiling_ends m e in
        let z : ceiling m e < 1 = lt_of_mul-lt-mul_right (down e) {m = ceiling m e} {n = 1} (omega (arith, b.1)) in
        let o : ceiling m e ≡ 0 = omega arith in
        let p = place_zero (floor_of x) (subst (λ (n : ℕ). HasValue (floor_of x) true n 1) o v) in
        let s : lt x (dec 0 0) ≡ false = ap (lt x) zero_is ∙ (unfold lt in l) in
        let t : lt x (dec 24 0) ≡ true = ap (lt x) day_is
        ∙ (unfold lt in lt-ltb 0 (m * up e * 1 + 3 * 2 ^ 3 * down e) (omega (arith, down_pos e))) in
        (p.taken ∙ rw (s, t) refl, subst (λ (n : ℕ). n < 24) (sym p.hours) (omega arith))

right : (value : Float) → has_time_of value ≡ true → Right value
right nan h = absurd (false≢true (unfold has_time_of dec round neg le lt eq in h))
right (inf true) h = absurd (false≢true (unfold has_time_of dec round neg le lt eq in h))
right (inf false) h = absurd (false≢true (unfold has_time_of dec round neg le lt eq in h))
right (fin true m e) h = right_down m e h
right (fin false m e) h = right_up m e h

-- the date taken is yesterday below 0, tomorrow from 24 on, and else the date
pub taken_is : (value : Float) → has_time_of value ≡ true → taken_of value ≡ date_taken value
unfolding Right
taken_is value h = (right value h).0

-- the hour of that date is at most 23
pub hour_in_day : (value : Float) → has_time_of value ≡ true → (hour_adjustment_of (floor_of value)).hour < 24
unfolding Right
hour_in_day value h = (right value h).1
