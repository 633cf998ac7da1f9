-- ops.rs: the season, by which the MoonsightingCommittee method bounds Fajr and Isha: minutes before sunrise and after sunset.
use Rattle.std.specs.Prelude.{ℕ, ◌+◌, ◌-◌, ◌%◌, ◌^◌, cond, ℤ, pos, ◌+ℤ◌, nat_le, Float}
use Rattle.std.specs.Float.{binary64}
use Rattle.std.specs.Float.Ieee.{neg, le, of_int, to_signed}
use Rattle.float64.specs.Ops.{◌+ᶠ◌, ◌-ᶠ◌, ◌*ᶠ◌, ◌/ᶠ◌, dec}
use Rattle.float64.specs.Ranges.{inside_of}
use Rattle.float64.specs.Sizes.{abs_of}
use Rattle.float64.specs.Whole.{round_of}
use Rattle.calendar.specs.Gregorian.{leap_of}
use Rattle.calendar.specs.Days.{days_in_year_of}
use Rattle.models.specs.declared.rounding.Rounding.TheVariants.{Nearest}
use Rattle.models.specs.declared.rules.Season.{Season}
use Rattle.models.specs.declared.rules.Southern.{Southern}
use Rattle.models.specs.declared.rules.Southern.TheVariants.{Unreduced, StartsAgain}
use Rattle.models.specs.declared.shafaq.Shafaq.{Shafaq}
use Rattle.models.specs.declared.shafaq.Shafaq.TheVariants.{General, Ahmer, Abyad}
use Rattle.whole_minutes.specs.Times.{sat_of, rounded_of}
use Rattle.ops.specs.declared.season.AdjustmentDaytime.{AdjustmentDaytime}
use Rattle.ops.specs.declared.season.AdjustmentDaytime.TheVariants.{Morning, Evening}
use Rattle.ops.specs.declared.season.TwilightAdjustmentValues.{TwilightAdjustmentValues}

-- `southern_offset`, the day of the June solstice
unfoldable pub southern_offset_of : ℕ → ℕ
southern_offset_of year = cond (leap_of year) 173 172

-- `days_since_solstice`, "latitude 0 northern: day 354 of a common year gives 364, day 355 gives 0. South it isn't reduced". "The u32 that
-- wraps in the southern count: wrapping subtract."
unfoldable pub days_since_solstice_of : ℕ → ℕ → Float → ℕ
unfolding dec
days_since_solstice_of day year latitude =
    let days = days_in_year_of year in
    let lapsed = (day + 10) % 2 ^ 32 in
    cond (le (dec 0 0) latitude) (cond (nat_le days lapsed) (lapsed - days) lapsed) ((day + days - southern_offset_of year) % 2 ^ 32)

-- "The southern count is then the day of the year less 172 (173 in a leap year), plus the days in the year only when that is negative."
unfoldable pub southern_count_of : ℕ → ℕ → ℕ
southern_count_of day year =
    cond (nat_le (southern_offset_of year) day) (day - southern_offset_of year) (day + days_in_year_of year - southern_offset_of year)

-- by the rule that is chosen for the south; the equator is northern by either
unfoldable pub days_by_rule : Southern → Float → ℕ → ℕ → ℕ
unfolding dec
days_by_rule Unreduced latitude day year = days_since_solstice_of day year latitude
days_by_rule StartsAgain latitude day year = cond (le (dec 0 0) latitude) (days_since_solstice_of day year latitude) (southern_count_of day year)

abbrev pub season_days_of : Season → ℕ → ℕ → ℕ
season_days_of season day year = days_by_rule season.southern season.latitude day year

-- minutes at the equator, and more or fewer of them for each 55 degrees of latitude: in thousandths
unfoldable pub more_minutes : ℕ → Float → ℕ → Float
unfolding dec
more_minutes base latitude n = dec base 0 +ᶠ dec n 3 /ᶠ dec 55 0 *ᶠ abs_of latitude

unfoldable pub fewer_minutes : ℕ → Float → ℕ → Float
unfolding dec
fewer_minutes base latitude n = dec base 0 -ᶠ dec n 3 /ᶠ dec 55 0 *ᶠ abs_of latitude

abbrev values_of : Float → Float → Float → Float → TwilightAdjustmentValues
values_of a b c d = record { a = a; b = b; c = c; d = d }

-- twilight_adjustment_values: the observed minutes at four points of the year
unfoldable pub evening_values_of : Float → Shafaq → TwilightAdjustmentValues
evening_values_of x General = values_of (more_minutes 75 x 25600) (more_minutes 75 x 2050) (fewer_minutes 75 x 9210) (more_minutes 75 x 6140)
evening_values_of x Ahmer = values_of (more_minutes 62 x 17400) (fewer_minutes 62 x 7160) (more_minutes 62 x 5120) (more_minutes 62 x 19440)
evening_values_of x Abyad = values_of (more_minutes 75 x 25600) (more_minutes 75 x 7160) (more_minutes 75 x 36840) (more_minutes 75 x 81840)

unfoldable pub twilight_adjustment_values_of : AdjustmentDaytime → Float → Shafaq → TwilightAdjustmentValues
twilight_adjustment_values_of Morning x shafaq =
    values_of (more_minutes 75 x 28650) (more_minutes 75 x 19440) (more_minutes 75 x 32740) (more_minutes 75 x 48100)
twilight_adjustment_values_of Evening x shafaq = evening_values_of x shafaq

-- the value after `lapsed` of `days` days, on a straight line from one value to the next
abbrev pub interpolate_linearly_of : Float → Float → Float → Float → Float
interpolate_linearly_of from to days lapsed = from +ᶠ (to -ᶠ from) /ᶠ days *ᶠ lapsed

-- twilight_adjustments: the minutes on a day, by the six parts of the year
unfoldable pub twilight_adjustments_of : TwilightAdjustmentValues → Float → Float
unfolding dec
twilight_adjustments_of v days =
    cond (inside_of (dec 0 0) (dec 90 0) days) (interpolate_linearly_of v.a v.b (dec 91 0) days)
    (cond (inside_of (dec 91 0) (dec 136 0) days) (interpolate_linearly_of v.b v.c (dec 46 0) (days -ᶠ dec 91 0))
    (cond (inside_of (dec 137 0) (dec 182 0) days) (interpolate_linearly_of v.c v.d (dec 46 0) (days -ᶠ dec 137 0))
    (cond (inside_of (dec 183 0) (dec 228 0) days) (interpolate_linearly_of v.d v.c (dec 46 0) (days -ᶠ dec 183 0))
    (cond (inside_of (dec 229 0) (dec 274 0) days) (interpolate_linearly_of v.c v.b (dec 46 0) (days -ᶠ dec 229 0))
    (interpolate_linearly_of v.b v.a (dec 91 0) (days -ᶠ dec 275 0))))))

-- the minutes on a day of a year, of which the Morning's are the same for every shafaq
abbrev pub season_minutes_of : AdjustmentDaytime → Season → ℕ → ℕ → Shafaq → Float
season_minutes_of daytime season day year shafaq =
    let days = of_int binary64 (pos (season_days_of season day year)) in
    twilight_adjustments_of (twilight_adjustment_values_of daytime season.latitude shafaq) days

-- `(adjustment * -60.0).round() as i64` seconds from sunrise
unfoldable pub morning_seconds_of : Season → ℕ → ℕ → ℤ
unfolding dec
morning_seconds_of season day year = to_signed 63 (round_of (season_minutes_of Morning season day year General *ᶠ neg (dec 60 0)))

unfoldable pub evening_seconds_of : Season → ℕ → ℕ → Shafaq → ℤ
unfolding dec
evening_seconds_of season day year shafaq = to_signed 63 (round_of (season_minutes_of Evening season day year shafaq *ᶠ dec 60 0))

-- the source's own functions have the source's count
abbrev pub source_season : Float → Season
source_season latitude = record { latitude = latitude; southern = Unreduced }

abbrev pub season_adjusted_morning_twilight_of : Float → ℕ → ℕ → ℤ → ℤ
season_adjusted_morning_twilight_of latitude day year sunrise = sat_of (sunrise +ℤ morning_seconds_of (source_season latitude) day year)

-- "Only the evening season bound is itself rounded (Nearest)."
abbrev pub season_adjusted_evening_twilight_of : Float → ℕ → ℕ → ℤ → Shafaq → ℤ
season_adjusted_evening_twilight_of latitude day year sunset shafaq =
    sat_of (rounded_of Nearest (sat_of (sunset +ℤ evening_seconds_of (source_season latitude) day year shafaq)))
