-- Request 1's sentences, each as a law of every number. Assumes nothing.
use Rattle.std.specs.Prelude.{None, Some}
use Rattle.prelude.proofs.Logic.{◌≡◌, refl, ap, ◌∙◌, Bool, true, false, cond, ◌&&◌, ◌||◌, false≢true, ℕ, ◌+◌, ◌*◌, ◌^◌, ◌≤◌, ◌<◌}
use Rattle.prelude.proofs.Logic.{mul-le-mul_left, arith, ltb, eqb, ℤ, pos, pow_pos, ltb-true, lt-ltb, le-ltb, leb-false, eqb-true, ne_eqb}
use Rattle.float64.proofs.Floats.{Float, nan, inf, fin, up, down, round, neg, le, lt, eq, down_pos, dec, is_normal_of, floor_of}
use Rattle.solar.specs.Setting.{hour_adjustment_of, minute_of, setting_hour_of, day_second_of}
use Rattle.solar.specs.PastMidnight.{has_time_of, next_midnight_of, carried_of, carried_hour_of}
use Rattle.solar.specs.Promises.{date_taken, hour_sum, minute_left, CarriesPastMidnight}
use Rattle.solar.proofs.PastMidnightLaws.{carried_agrees, carried_none, carried_small, carried_past}
use Rattle.solar.proofs.Taken.{both, taken_is, hour_in_day}

-- ---- zero and subnormal numbers are 00:00 of the date
less_than : (a d w : ℕ) → 0 < w → a * w < d → a < d
less_than a d w p h = let z = mul-le-mul_left a p in omega arith

small_has_time : (s : Bool) (m : ℕ) (e : ℤ) → m * up e < down e → has_time_of (fin s m e) ≡ true
unfolding has_time_of dec round neg le lt eq
small_has_time true m e h =
    rw (lt-ltb (m * up e * 1) (3 * 2 ^ 3 * down e) (omega arith), lt-ltb 0 (m * up e * 1 + 3 * 2 ^ 4 * down e) (omega (arith, down_pos e)))
small_has_time false m e h =
    rw (lt-ltb 0 (3 * 2 ^ 3 * down e + m * up e * 1) (omega (arith, down_pos e)), lt-ltb (m * up e * 1) (3 * 2 ^ 4 * down e) (omega arith))

not_normal : (s : Bool) (m : ℕ) (e : ℤ) → is_normal_of (fin s m e) ≡ false → m * up e * 2 ^ 1022 < down e
unfolding is_normal_of
not_normal s m e n = leb-false (down e) (m * up e * 2 ^ 1022) n

pub small_on_date : (s : Bool) (m : ℕ) (e : ℤ) → is_normal_of (fin s m e) ≡ false → carried_hour_of (fin s m e) ≡ Some (pos 0)
small_on_date s m e n =
    carried_small (fin s m e) (small_has_time s m e (less_than (m * up e) (down e) (2 ^ 1022) (pow_pos 1022) (not_normal s m e n))) n

-- ---- numbers below -24 or from 48 on have no time
either_false : (a b : ℕ) (t : Bool) → b < a → ltb a b || (eqb b a && t) ≡ false
either_false a b t h = rw (le-ltb a b (omega arith), ne_eqb b a (λ e. omega (arith, e)))

either_le : (a b : ℕ) (t : Bool) → ltb a b || (eqb a b && t) ≡ true → a ≤ b
either_le a b t h = go (ltb a b) (eqb a b) refl refl h
  where
    go : (u v : Bool) → ltb a b ≡ u → eqb a b ≡ v → u || (v && t) ≡ true → a ≤ b
    go true v l e h = omega (arith, ltb-true a b l)
    go false true l e h = omega (arith, eqb-true a b e)
    go false false l e h = absurd (false≢true h)

and_false : (b : Bool) → b && false ≡ false
and_false true = refl
and_false false = refl

below_no_time : (value : Float) → lt value (neg (dec 24 0)) ≡ true → has_time_of value ≡ false
unfolding has_time_of dec round neg le lt eq
below_no_time nan h = refl
below_no_time (inf true) h = refl
below_no_time (inf false) h = absurd (false≢true h)
below_no_time (fin false m e) h = absurd (false≢true h)
below_no_time (fin true m e) h =
    rw (either_false (m * up e * 1) (3 * 2 ^ 3 * down e) true (ltb-true (3 * 2 ^ 3 * down e) (m * up e * 1) h))

from_no_time : (value : Float) → le (dec 48 0) value ≡ true → has_time_of value ≡ false
unfolding has_time_of dec round neg le lt eq
from_no_time nan h = refl
from_no_time (inf true) h = refl
from_no_time (inf false) h = refl
from_no_time (fin true m e) h = absurd (omega
    (arith, down_pos e, eqb-true (3 * 2 ^ 4 * down e) 0 (both (eqb (3 * 2 ^ 4 * down e) (m * up e * 1)) (eqb (3 * 2 ^ 4 * down e) 0) h).1))
from_no_time (fin false m e) h =
    rw (le-ltb (m * up e * 1) (3 * 2 ^ 4 * down e) (either_le (3 * 2 ^ 4 * down e) (m * up e * 1) true h))
    (and_false (le (neg (dec 24 0)) (fin false m e)))

pub below_none : (value : Float) → lt value (neg (dec 24 0)) ≡ true → carried_hour_of value ≡ None
below_none value h = carried_none value (below_no_time value h)

pub from_none : (value : Float) → le (dec 48 0) value ≡ true → carried_hour_of value ≡ None
from_none value h = carried_none value (from_no_time value h)

pub nan_none : carried_hour_of nan ≡ None
unfolding carried_hour_of has_time_of dec round neg le lt eq
nan_none = refl

pub infinite_none : (s : Bool) → carried_hour_of (inf s) ≡ None
unfolding carried_hour_of has_time_of dec round neg le lt eq
infinite_none true = refl
infinite_none false = refl

-- ---- an hour that comes to 24 is 00:00 of the date after the one taken; every other hour is one of the date taken
pub sum_held : (value : Float) → has_time_of value ≡ true → hour_sum value ≤ 24
sum_held value h = go (ltb (minute_of value (floor_of value)) 60)
  where
    go : (t : Bool) → cond t (hour_adjustment_of (floor_of value)).hour ((hour_adjustment_of (floor_of value)).hour + 1) ≤ 24
    go true = omega (arith, hour_in_day value h)
    go false = omega (arith, hour_in_day value h)

taken_carried : (value : Float) → has_time_of value ≡ true → is_normal_of value ≡ true
    → carried_hour_of value ≡ cond (ltb (hour_sum value) 24) (Some (day_second_of (date_taken value) (hour_sum value) (minute_left value)))
    (next_midnight_of (date_taken value))
unfolding carried_hour_of carried_of
taken_carried value h n =
    rw (h, n)
    (ap (λ (d : ℕ). cond (ltb (hour_sum value) 24) (Some (day_second_of d (hour_sum value) (minute_left value))) (next_midnight_of d))
    (taken_is value h))

pub hour_on_date : (value : Float) → has_time_of value ≡ true → is_normal_of value ≡ true → hour_sum value < 24
    → carried_hour_of value ≡ Some (day_second_of (date_taken value) (hour_sum value) (minute_left value))
hour_on_date value h n l =
    taken_carried value h n
    ∙ ap (λ (b : Bool). cond b (Some (day_second_of (date_taken value) (hour_sum value) (minute_left value))) (next_midnight_of (date_taken value)))
    (lt-ltb (hour_sum value) 24 l)

pub hour_24_carried : (value : Float) → has_time_of value ≡ true → is_normal_of value ≡ true → hour_sum value ≡ 24
    → carried_hour_of value ≡ next_midnight_of (date_taken value)
hour_24_carried value h n l =
    taken_carried value h n
    ∙ ap (λ (b : Bool). cond b (Some (day_second_of (date_taken value) (hour_sum value) (minute_left value))) (next_midnight_of (date_taken value)))
    (le-ltb (hour_sum value) 24 (omega arith))

-- if document 01 has no time
pub lost_carried : (value : Float) → has_time_of value ≡ true → is_normal_of value ≡ true → setting_hour_of value ≡ None
    → carried_hour_of value ≡ next_midnight_of (date_taken value)
lost_carried value h n e = carried_past value h n e ∙ ap next_midnight_of (taken_is value h)

-- ---- all sentences together
pub carries_past_midnight : CarriesPastMidnight
carries_past_midnight =
    record {
      carried = hour_24_carried;
      most = sum_held;
      on_date = hour_on_date;
      same = carried_agrees;
      small = small_on_date;
      below = below_none;
      from = from_none;
      nan = nan_none;
      infinite = infinite_none;
    }
