-- The hour numbers and times as the exports return them.
use Rattle.std.specs.Prelude.{ℕ, true, false, pos, Float, None, Option, Some, ℤ}
use Rattle.calendar.specs.Gregorian.{date_of}
use Rattle.solar.specs.Hours.{Sun, sun_on}
use Rattle.unit.specs.Unit.{coordinates_of}
use Rattle.probes.specs.declared.functions.ProbeTime.{ProbeTime}

-- the sun of a date over a place
abbrev pub probe_sun_of : ℕ → ℕ → ℕ → Float → Float → Sun
probe_sun_of year month day latitude longitude = sun_on (coordinates_of latitude longitude) (date_of year month day)

unfoldable pub probe_time_of : Option ℤ → ProbeTime
probe_time_of (Some s) = record { found = true; seconds = s }
probe_time_of None = record { found = false; seconds = pos 0 }
