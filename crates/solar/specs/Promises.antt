-- Request 1's sentences for every hour number: what the rule that carries gives. Proved in proofs/PastMidnightSentences.
use Rattle.std.specs.Prelude.{ℕ, ◌≤◌, ◌<◌, ◌≡◌, Bool, true, false, cond, ℤ, pos, Float, None, Some}
use Rattle.std.specs.Float.{nan, inf, fin}
use Rattle.std.specs.Float.Ieee.{le, lt, neg}
use Rattle.float64.specs.Ops.{dec}
use Rattle.float64.specs.Sizes.{is_normal_of}
use Rattle.float64.specs.Whole.{floor_of}
use Rattle.solar.specs.Setting.{hour_adjustment_of, minute_of, day_second_of, sum_of, rest_of, setting_hour_of}
use Rattle.solar.specs.PastMidnight.{has_time_of, next_midnight_of, carried_hour_of}

-- the date that an hour number takes: yesterday (0) if it is below 0, tomorrow (2) from 24 on, else the date itself (1)
abbrev pub date_taken : Float → ℕ
date_taken value = cond (lt value (dec 0 0)) 0 (cond (lt value (dec 24 0)) 1 2)

-- the hour, with one more for minute 60, and the minute that is left
abbrev pub hour_sum : Float → ℕ
hour_sum value = sum_of (hour_adjustment_of (floor_of value)).hour (minute_of value (floor_of value))

abbrev pub minute_left : Float → ℕ
minute_left value = rest_of (minute_of value (floor_of value))

pub record CarriesPastMidnight : Type 0 where
  -- "an hour number that rounds to hour 24 is 00:00 of the date after the one taken. This also holds when the floored hour was below 0 or
  -- reached 47."
  pub carried : (value : Float) → has_time_of value ≡ true → is_normal_of value ≡ true → hour_sum value ≡ 24
      → carried_hour_of value ≡ next_midnight_of (date_taken value)
  -- no number rounds to a later hour; a number that rounds to an earlier hour has that hour and minute of the date taken
  pub most : (value : Float) → has_time_of value ≡ true → hour_sum value ≤ 24
  pub on_date : (value : Float) → has_time_of value ≡ true → is_normal_of value ≡ true → hour_sum value < 24
      → carried_hour_of value ≡ Some (day_second_of (date_taken value) (hour_sum value) (minute_left value))
  -- this is document 01's time, if that rule has one
  pub same : (value : Float) (t : ℤ) → has_time_of value ≡ true → setting_hour_of value ≡ Some t → carried_hour_of value ≡ Some t
  -- "Zero and subnormal numbers are 00:00 of the date."
  pub small : (s : Bool) (m : ℕ) (e : ℤ) → is_normal_of (fin s m e) ≡ false → carried_hour_of (fin s m e) ≡ Some (pos 0)
  -- "Numbers below -24 or from 48 on have no time", and a NaN has none
  pub below : (value : Float) → lt value (neg (dec 24 0)) ≡ true → carried_hour_of value ≡ None
  pub from : (value : Float) → le (dec 48 0) value ≡ true → carried_hour_of value ≡ None
  pub nan : carried_hour_of nan ≡ None
  pub infinite : (s : Bool) → carried_hour_of (inf s) ≡ None
