-- adjustments.rs: the minutes of six times.
use Rattle.std.specs.Prelude.{ℤ, pos}
use Rattle.models.specs.declared.adjustments.TimeAdjustment.{TimeAdjustment}
use Rattle.models.specs.declared.adjustments.Adjustment.{Adjustment}

abbrev pub six_minutes_of : ℤ → ℤ → ℤ → ℤ → ℤ → ℤ → TimeAdjustment
six_minutes_of fajr sunrise dhuhr asr maghrib isha =
    record { fajr = fajr; sunrise = sunrise; dhuhr = dhuhr; asr = asr; maghrib = maghrib; isha = isha }

abbrev pub no_minutes : TimeAdjustment
no_minutes = six_minutes_of (pos 0) (pos 0) (pos 0) (pos 0) (pos 0) (pos 0)

-- the builder holds the minutes and returns them
abbrev pub builder_of : TimeAdjustment → Adjustment
builder_of m = record { minutes = m }
