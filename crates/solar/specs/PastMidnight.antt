-- Request 1, carry past midnight: an hour number as a time, in seconds from 0h of its date. "An hour number that rounds to hour 24 is 00:00
-- of the date after the one taken. This also holds when the floored hour was below 0 or reached 47. Zero and subnormal numbers are 00:00 of
-- the date. Numbers below -24 or from 48 on have no time."
use Rattle.std.specs.Prelude.{ℕ, ◌+◌, Bool, cond, ◌&&◌, pos, ltb, Float, None, Option, Some, ℤ}
use Rattle.std.specs.Float.Ieee.{le, lt, neg}
use Rattle.float64.specs.Ops.{dec}
use Rattle.float64.specs.Sizes.{is_normal_of}
use Rattle.float64.specs.Whole.{floor_of}
use Rattle.solar.specs.declared.setting.Placed.{Placed}
use Rattle.solar.specs.Setting.{hour_adjustment_of, minute_of, day_second_of, sum_of, rest_of}

-- false for a NaN, which passes no test
unfoldable pub has_time_of : Float → Bool
unfolding dec
has_time_of value = le (neg (dec 24 0)) value && lt value (dec 48 0)

-- 00:00 of the date after the one taken
abbrev pub next_midnight_of : ℕ → Option ℤ
next_midnight_of taken = Some (day_second_of (taken + 1) 0 0)

-- document 01's hour and minute on the date taken; a sum of 24 is 00:00 of the date after it
unfoldable pub carried_of : Placed → ℕ → Option ℤ
carried_of p minute =
    let hour = sum_of p.hour minute in
    cond (ltb hour 24) (Some (day_second_of p.ahead hour (rest_of minute))) (next_midnight_of p.ahead)

-- a number that has a time and is not normal is zero or subnormal
unfoldable pub carried_hour_of : Float → Option ℤ
carried_hour_of value =
    let hours = floor_of value in
    cond (has_time_of value) (cond (is_normal_of value) (carried_of (hour_adjustment_of hours) (minute_of value hours)) (Some (pos 0))) None
