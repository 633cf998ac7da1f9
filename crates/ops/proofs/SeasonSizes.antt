-- How many minutes the season gives at most, at every latitude and on every day of a year: each value of `Season`, from the four of the
-- year to the minutes on a day, by whole bounds that are wider than need be. Assumes nothing.
use Rattle.prelude.proofs.Logic.{◌≡◌, refl, Bool, true, false, cond, and-eq-true_iff, ℕ, ◌+◌, ◌-◌, ◌*◌, ◌%◌, ◌^◌, ◌≤◌, ◌<◌, mod-le}
use Rattle.prelude.proofs.Logic.{le_trans, arith, leb, T, leb→le, lit<, lit≤, pos, either}
use Rattle.float64.proofs.Floats.{Float, binary64, le, of_int, HasValue, round_whole, inside_of, ◌-ᶠ◌, ◌*ᶠ◌, ◌/ᶠ◌, dec, abs_of, big, Within}
use Rattle.float64.proofs.Floats.{value_within, abs_within, widen, round-within, mul_within, div_within, add_within, sub_within}
use Rattle.float64.proofs.Floats.{apart_within, le_whole}
use Rattle.calendar.proofs.Calendar.{leap_of, days_in_year_of}
use Rattle.models.specs.declared.shafaq.Shafaq.{Shafaq}
use Rattle.models.specs.declared.shafaq.Shafaq.TheVariants.{General, Ahmer, Abyad}
use Rattle.ops.specs.declared.{season.AdjustmentDaytime.AdjustmentDaytime, season.TwilightAdjustmentValues.TwilightAdjustmentValues}
use Rattle.ops.specs.declared.season.AdjustmentDaytime.TheVariants.{Morning, Evening}
use Rattle.ops.specs.Season.{southern_offset_of, days_since_solstice_of, more_minutes, fewer_minutes, evening_values_of}
use Rattle.ops.specs.Season.{twilight_adjustment_values_of, interpolate_linearly_of, twilight_adjustments_of}

pub whole_value : (n : ℕ) → n ≤ big → HasValue (dec n 0) false n 1
unfolding dec
whole_value n h = round_whole binary64 false n h

pub whole_within : (n a : ℕ) → n ≤ a → a ≤ big → Within (dec n 0) a 1
whole_within n a l h = widen (dec n 0) n a 1 l (value_within (dec n 0) false n 1 (whole_value n (le_trans l h)))

-- ---- the minutes at four points of the year
pub record Bounded (v : TwilightAdjustmentValues) : Type 0 where
  pub first : Within v.a 165 1
  pub second : Within v.b 165 1
  pub third : Within v.c 255 1
  pub fourth : Within v.d 255 1

-- a slope of n thousandths for 55 degrees, no more than s minutes a degree
module _ (x : Float) (h : Within x 90 1) where
  change-within : (n s : ℕ) → n ≤ 55000 * s → s ≤ 2 → Within (dec n 3 /ᶠ dec 55 0 *ᶠ abs_of x) (s * 90) 1
  unfolding dec
  change-within n s k i =
      let slope = div_within (dec n 3) (dec 55 0) false (55 * s) 55 1 1 s 0 (lit< tt) (lit< tt) (lit< tt)
      (round-within n 1000 (55 * s) 0 (lit< tt) (omega arith) (lit≤ tt) (omega arith) false) (whole_value 55 (lit≤ tt)) (omega arith)
      (lit≤ tt) (omega arith) in
      mul_within (dec n 3 /ᶠ dec 55 0) (abs_of x) s 90 1 1 (s * 90) 0 (lit< tt) (lit< tt) slope (abs_within x 90 1 h) (omega arith) (lit≤ tt)
      (omega arith)

  up : (base n s : ℕ) → T (leb base 75) → T (leb n (55000 * s)) → T (leb s 2) → Within (more_minutes base x n) (75 + s * 90) 1
  unfolding more_minutes
  up base n s j k i = let m = leb→le s 2 i in add_within (dec base 0) (dec n 3 /ᶠ dec 55 0 *ᶠ abs_of x) 75 (s * 90)
      (whole_within base 75 (lit≤ j) (lit≤ tt)) (change-within n s (lit≤ k) m) (omega arith)

  down : (base n s : ℕ) → T (leb base 75) → T (leb n (55000 * s)) → T (leb s 2) → Within (fewer_minutes base x n) (75 + s * 90) 1
  unfolding fewer_minutes
  down base n s j k i = let m = leb→le s 2 i in sub_within (dec base 0) (dec n 3 /ᶠ dec 55 0 *ᶠ abs_of x) 75 (s * 90)
      (whole_within base 75 (lit≤ j) (lit≤ tt)) (change-within n s (lit≤ k) m) (omega arith)

  pub values-bounded : (t : AdjustmentDaytime) (s : Shafaq) → Bounded (twilight_adjustment_values_of t x s)
  unfolding twilight_adjustment_values_of evening_values_of dec
  values-bounded Morning s = record {
    first = up 75 28650 1 tt tt tt;
    second = up 75 19440 1 tt tt tt;
    third = up 75 32740 2 tt tt tt;
    fourth = up 75 48100 2 tt tt tt;
  }
  values-bounded Evening General = record {
    first = up 75 25600 1 tt tt tt;
    second = up 75 2050 1 tt tt tt;
    third = down 75 9210 2 tt tt tt;
    fourth = up 75 6140 2 tt tt tt;
  }
  values-bounded Evening Ahmer = record {
    first = up 62 17400 1 tt tt tt;
    second = down 62 7160 1 tt tt tt;
    third = up 62 5120 2 tt tt tt;
    fourth = up 62 19440 2 tt tt tt;
  }
  values-bounded Evening Abyad = record {
    first = up 75 25600 1 tt tt tt;
    second = up 75 7160 1 tt tt tt;
    third = up 75 36840 2 tt tt tt;
    fourth = up 75 81840 2 tt tt tt;
  }

-- ---- the days
-- of whole numbers, the test says what it seems to
test_within : (low high n : ℕ) → low ≤ big → high ≤ big → n ≤ big → inside_of (dec low 0) (dec high 0) (of_int binary64 (pos n)) ≡ true
    → (low ≤ n) × (n ≤ high)
unfolding dec of_int
test_within low high n i j k e =
    let t = (and-eq-true_iff (le (dec low 0) (of_int binary64 (pos n))) (le (of_int binary64 (pos n)) (dec high 0))).0 e in
    (le_whole low n i k t.0, le_whole n high k j t.1)

-- 559 is the last day of a leap year, in the south
pub days_most : (day year : ℕ) (latitude : Float) → day ≤ 366 → days_since_solstice_of day year latitude ≤ 559
unfolding days_since_solstice_of days_in_year_of southern_offset_of
days_most day year latitude h =
    let m = mod-le (day + 10) (2 ^ 32) in
    either (λ n. n ≤ 559) (le (dec 0 0) latitude)
    (either (λ n. n ≤ 559) (leb (cond (leap_of year) 366 365) ((day + 10) % 2 ^ 32)) (omega arith) (omega arith)) (south (leap_of year))
  where
    south : (leap : Bool) → (day + cond leap 366 365 - cond leap 173 172) % 2 ^ 32 ≤ 559
    south true = omega (arith, mod-le (day + 366 - 173) (2 ^ 32))
    south false = omega (arith, mod-le (day + 365 - 172) (2 ^ 32))

-- ---- the minutes on a day
-- from a value of at most f to one of at most t in `days` days, no more than q minutes a day, for at most l of them
way_within : (from to lapsed : Float) (days f t q l : ℕ) → 0 < days → days ≤ 91 → q ≤ 12 → t ≤ 255 → t + f ≤ q * days → f + q * l ≤ 1301
    → Within from f 1 → Within to t 1 → Within lapsed l 1 → Within (interpolate_linearly_of from to (dec days 0) lapsed) 1301 1
way_within from to lapsed days f t q l z p i j e g hf ht hl =
    let difference = sub_within to from t f ht hf (omega arith) in
    let daily = div_within (to -ᶠ from) (dec days 0) false (t + f) days 1 1 q 0 z (lit< tt) (lit< tt) difference
    (whole_value days (omega arith)) (omega arith) (lit≤ tt) (omega arith) in
    let change = mul_within ((to -ᶠ from) /ᶠ dec days 0) lapsed q l 1 1 (q * l) 0 (lit< tt) (lit< tt) daily hl (omega arith) (lit≤ tt)
    (omega arith) in
    widen (interpolate_linearly_of from to (dec days 0) lapsed) (f + q * l) 1301 1 g
    (add_within from ((to -ᶠ from) /ᶠ dec days 0 *ᶠ lapsed) f (q * l) hf change (omega arith))

choice : (t : Bool) (x y : Float) (a : ℕ) → (t ≡ true → Within x a 1) → Within y a 1 → Within (cond t x y) a 1
choice true x y a f h = f refl
choice false x y a f h = h

module _ (v : TwilightAdjustmentValues) (w : Bounded v) (n : ℕ) (h : n ≤ 559) where
  days : Float
  days = of_int binary64 (pos n)

  days-value : HasValue days false n 1
  unfolding days of_int
  days-value = round_whole binary64 false n (omega arith)

  lapsed-within : (start l : ℕ) → start ≤ 275 → n ≤ start + l → start ≤ n + l → l ≤ 559 → Within (days -ᶠ dec start 0) l 1
  lapsed-within start l p i j k = apart_within days (dec start 0) n start l days-value (whole_value start (omega arith)) i j (omega arith)

  -- the first part of the year, from winter's solstice
  first_part : inside_of (dec 0 0) (dec 90 0) days ≡ true → Within (interpolate_linearly_of v.a v.b (dec 91 0) days) 1301 1
  unfolding days
  first_part e =
      let t = test_within 0 90 n (lit≤ tt) (lit≤ tt) (omega arith) e in
      way_within v.a v.b days 91 165 165 4 90 (lit< tt) (lit≤ tt) (lit≤ tt) (lit≤ tt) (lit≤ tt) (lit≤ tt) w.first w.second
      (widen days n 90 1 t.1 (value_within days false n 1 days-value))

  -- the four of 46 days
  part : (from to : Float) (f t q start : ℕ) → start ≤ 275 → q ≤ 12 → t ≤ 255 → t + f ≤ q * 46 → f + q * 45 ≤ 1301 → Within from f 1
      → Within to t 1 → inside_of (dec start 0) (dec (start + 45) 0) days ≡ true
      → Within (interpolate_linearly_of from to (dec 46 0) (days -ᶠ dec start 0)) 1301 1
  unfolding days
  part from to f t q start p i j k g hf ht e =
      let u = test_within start (start + 45) n (omega arith) (omega arith) (omega arith) e in
      way_within from to (days -ᶠ dec start 0) 46 f t q 45 (lit< tt) (lit≤ tt) i j k g hf ht
      (lapsed-within start 45 p u.1 (omega (arith, u.0)) (lit≤ tt))

  -- the last, which is the longest in the south
  last-part : Within (interpolate_linearly_of v.b v.a (dec 91 0) (days -ᶠ dec 275 0)) 1301 1
  last-part =
      way_within v.b v.a (days -ᶠ dec 275 0) 91 165 165 4 284 (lit< tt) (lit≤ tt) (lit≤ tt) (lit≤ tt) (lit≤ tt) (lit≤ tt) w.second
      w.first
      (lapsed-within 275 284 (lit≤ tt) (omega arith) (omega arith) (lit≤ tt))

  pub minutes_within : Within (twilight_adjustments_of v (of_int binary64 (pos n))) 1301 1
  unfolding twilight_adjustments_of days
  minutes_within =
      choice (inside_of (dec 0 0) (dec 90 0) days) _ _ 1301 first_part
      (choice (inside_of (dec 91 0) (dec 136 0) days) _ _ 1301
      (part v.b v.c 165 255 10 91 (lit≤ tt) (lit≤ tt) (lit≤ tt) (lit≤ tt) (lit≤ tt) w.second w.third)
      (choice (inside_of (dec 137 0) (dec 182 0) days) _ _ 1301
      (part v.c v.d 255 255 12 137 (lit≤ tt) (lit≤ tt) (lit≤ tt) (lit≤ tt) (lit≤ tt) w.third w.fourth)
      (choice (inside_of (dec 183 0) (dec 228 0) days) _ _ 1301
      (part v.d v.c 255 255 12 183 (lit≤ tt) (lit≤ tt) (lit≤ tt) (lit≤ tt) (lit≤ tt) w.fourth w.third)
      (choice (inside_of (dec 229 0) (dec 274 0) days) _ _ 1301
      (part v.c v.b 255 165 10 229 (lit≤ tt) (lit≤ tt) (lit≤ tt) (lit≤ tt) (lit≤ tt) w.third w.second) last-part))))
