-- schedule.rs: portions of a night in f64, cut toward zero to whole seconds. A night is a number of seconds: "the portion is cut toward
-- zero, also when the night is negative".
use Rattle.std.specs.Prelude.{ℤ, pos, int_div, Float}
use Rattle.std.specs.Float.{binary64}
use Rattle.std.specs.Float.Ieee.{neg, of_int, to_signed}
use Rattle.float64.specs.Ops.{◌*ᶠ◌, ◌/ᶠ◌, dec}

-- `portion * (night.num_seconds() as f64)`
abbrev pub night_fraction_of : Float → ℤ → Float
night_fraction_of portion night = portion *ᶠ of_int binary64 night

-- calculate_isha: `night_fraction as i64`, which is added to sunset
unfoldable pub portion_after_of : Float → ℤ → ℤ
portion_after_of portion night = to_signed 63 (night_fraction_of portion night)

-- calculate_fajr: `-night_fraction as i64`, which is added to sunrise
unfoldable pub portion_before_of : Float → ℤ → ℤ
portion_before_of portion night = to_signed 63 (neg (night_fraction_of portion night))

-- "a seventh of the night (whole seconds, cut toward zero)"
unfoldable pub seventh_of : ℤ → ℤ
seventh_of night = int_div night (pos 7)

-- calculate_qiyam: `(night_duration / 2.0) as i64`
unfoldable pub middle_of : ℤ → ℤ
unfolding dec
middle_of night = to_signed 63 (of_int binary64 night /ᶠ dec 2 0)

-- `(night_duration * (2.0 / 3.0)) as i64`
unfoldable pub last_third_of : ℤ → ℤ
unfolding dec
last_third_of night = to_signed 63 (of_int binary64 night *ᶠ (dec 2 0 /ᶠ dec 3 0))
