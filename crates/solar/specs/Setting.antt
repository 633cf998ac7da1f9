-- solar.rs: an hour number as a time, in seconds from 0h of its date.
use Rattle.std.specs.Prelude.{ℕ, ◌+◌, ◌*◌, cond, ℤ, pos, ◌-ℤ◌, ltb, Float, None, Option, Some}
use Rattle.std.specs.Float.Ieee.{lt, to_unsigned}
use Rattle.float64.specs.Ops.{◌+ᶠ◌, ◌-ᶠ◌, ◌*ᶠ◌, ◌/ᶠ◌, dec}
use Rattle.float64.specs.Sizes.{is_normal_of}
use Rattle.float64.specs.Whole.{floor_of, round_of}
use Rattle.solar.specs.declared.setting.Placed.{Placed}

-- hour_adjustment: "Floored hours below 0 take yesterday, hours plus 24, clamped at 0; from 24, tomorrow, minus 24."
-- `ahead` is 0 for yesterday, 1 for the date, 2 for tomorrow.
unfoldable pub hour_adjustment_of : Float → Placed
unfolding dec
hour_adjustment_of hours =
    cond (lt hours (dec 0 0)) (record { ahead = 0; hour = to_unsigned 32 (hours +ᶠ dec 24 0) })
    (cond (lt hours (dec 24 0)) (record { ahead = 1; hour = to_unsigned 32 hours })
    (record { ahead = 2; hour = to_unsigned 32 (hours -ᶠ dec 24 0) }))

-- "Hours, minutes, seconds are floored; seconds round the minute"
unfoldable pub minute_of : Float → Float → ℕ
unfolding dec
minute_of value hours =
    let minutes = floor_of ((value -ᶠ hours) *ᶠ dec 60 0) in
    let seconds = floor_of ((value -ᶠ (hours +ᶠ minutes /ᶠ dec 60 0)) *ᶠ dec 60 0 *ᶠ dec 60 0) in
    to_unsigned 32 (round_of (minutes +ᶠ seconds /ᶠ dec 60 0))

-- the second of a day's hour and minute; the day is 0 for yesterday, 1 for the date, 2 for tomorrow and 3 for the day after
abbrev pub day_second_of : ℕ → ℕ → ℕ → ℤ
day_second_of day hour minute = pos (day * 86400 + hour * 3600 + minute * 60) -ℤ pos 86400

-- "minute 60 adds an hour to the hour found", and leaves minute 0
abbrev pub sum_of : ℕ → ℕ → ℕ
sum_of hour minute = cond (ltb minute 60) hour (hour + 1)

abbrev pub rest_of : ℕ → ℕ
rest_of minute = cond (ltb minute 60) minute 0

-- "and a sum of 24 or more has no time"
unfoldable pub hour_of : Placed → ℕ → Option ℤ
hour_of p minute =
    let hour = sum_of p.hour minute in
    cond (ltb hour 24) (Some (day_second_of p.ahead hour (rest_of minute))) None

-- setting_hour: "not normal (NaN, infinite, zero, subnormal) has no time"
unfoldable pub setting_hour_of : Float → Option ℤ
setting_hour_of value =
    let hours = floor_of value in
    cond (is_normal_of value) (hour_of (hour_adjustment_of hours) (minute_of value hours)) None
