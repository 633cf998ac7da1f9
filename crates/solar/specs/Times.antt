-- solar.rs: the times of a day's transit, sunrise and sunset, in seconds from 0h of the date; or the first that it lacks.
use Rattle.solar.specs.declared.times.Missing.{Missing}
use Rattle.solar.specs.declared.times.Missing.TheVariants.{Transit, Sunrise, Sunset}
use Rattle.solar.specs.declared.times.SolarTime.{SolarTime}
use Rattle.std.specs.Prelude.{Bool, Float, Err, None, Ok, Option, Result, Some, ℕ, ℤ}
use Rattle.refusals.specs.Refusals.{no_transit, no_sunrise, no_sunset}
use Rattle.models.specs.declared.rules.Midnight.{Midnight}
use Rattle.models.specs.declared.rules.Midnight.TheVariants.{Stops, Carries}
use Rattle.unit.specs.declared.Angle.{Angle}
use Rattle.solar.specs.declared.hours.HourNumbers.{HourNumbers}
use Rattle.solar.specs.Hours.{Sun, angle_number_of, afternoon_number_of}
use Rattle.solar.specs.Setting.{setting_hour_of}
use Rattle.solar.specs.PastMidnight.{carried_hour_of}

-- the time of an hour number: by the source's rule, or carried past midnight
unfoldable pub solar_hour_of : Midnight → Float → Option ℤ
solar_hour_of Stops number = setting_hour_of number
solar_hour_of Carries number = carried_hour_of number

-- 6 "no transit", 7 "no sunrise", 8 "no sunset"
abbrev pub missing_number_of : Missing → ℕ
missing_number_of Transit = no_transit
missing_number_of Sunrise = no_sunrise
missing_number_of Sunset = no_sunset

-- "tried in that order"
unfoldable pub day_of : Option ℤ → Option ℤ → Option ℤ → Result SolarTime Missing
day_of None sunrise sunset = Err Transit
day_of (Some t) None sunset = Err Sunrise
day_of (Some t) (Some r) None = Err Sunset
day_of (Some t) (Some r) (Some s) = Ok (record { transit = t; sunrise = r; sunset = s })

unfoldable pub solar_time_of : Midnight → HourNumbers → Result SolarTime Missing
solar_time_of rule n = day_of (solar_hour_of rule n.transit) (solar_hour_of rule n.sunrise) (solar_hour_of rule n.sunset)

-- SolarTime's time_for_solar_angle and afternoon
abbrev pub time_for_solar_angle_of : Midnight → Sun → Angle → Bool → Option ℤ
time_for_solar_angle_of rule sun angle after = solar_hour_of rule (angle_number_of sun angle after)

abbrev pub afternoon_of : Midnight → Sun → Float → Option ℤ
afternoon_of rule sun shadow = solar_hour_of rule (afternoon_number_of sun shadow)
