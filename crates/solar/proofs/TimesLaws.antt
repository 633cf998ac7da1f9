-- The range of the times of the sun by either rule: from 0h of yesterday to 24h of tomorrow. Assumes nothing.
use Rattle.std.specs.Prelude.{Err, None, Ok, Option, Result, Some}
use Rattle.prelude.proofs.Logic.{◌≡◌, subst, ℤ}
use lib.Ieee.{Float}
use Rattle.models.specs.declared.rules.Midnight.{Midnight}
use Rattle.models.specs.declared.rules.Midnight.TheVariants.{Stops, Carries}
use Rattle.solar.specs.declared.times.Missing.{Missing}
use Rattle.solar.specs.declared.times.SolarTime.{SolarTime}
use Rattle.solar.specs.declared.hours.HourNumbers.{HourNumbers}
use Rattle.solar.specs.Times.{solar_hour_of, day_of, solar_time_of}
use Rattle.solar.proofs.SettingLaws.{OfThreeDays, HourOfThreeDays, setting_held}
use Rattle.solar.proofs.PastMidnightLaws.{carried_held}

pub hour_held : (rule : Midnight) (number : Float) → HourOfThreeDays (solar_hour_of rule number)
unfolding solar_hour_of
hour_held Stops number = setting_held number
hour_held Carries number = carried_held number

pub hour_range : (rule : Midnight) (number : Float) (t : ℤ) → solar_hour_of rule number ≡ Some t → OfThreeDays t
hour_range rule number t e = subst HourOfThreeDays e (hour_held rule number)

-- ---- the same for the sun of a day that lacks no time
pub record SunOfThreeDays (sun : SolarTime) : Type 0 where
  pub transit : OfThreeDays sun.transit
  pub sunrise : OfThreeDays sun.sunrise
  pub sunset : OfThreeDays sun.sunset

abbrev pub DayOfThreeDays : Result SolarTime Missing → Type 0
DayOfThreeDays (Ok sun) = SunOfThreeDays sun
DayOfThreeDays (Err missing) = Unit {0}

pub day_held : (rule : Midnight) (n : HourNumbers) → DayOfThreeDays (solar_time_of rule n)
unfolding solar_time_of day_of
day_held rule n =
    by-hours (solar_hour_of rule n.transit) (solar_hour_of rule n.sunrise) (solar_hour_of rule n.sunset)
    (hour_held rule n.transit) (hour_held rule n.sunrise) (hour_held rule n.sunset)
  where
    by-hours : (t r s : Option ℤ) → HourOfThreeDays t → HourOfThreeDays r → HourOfThreeDays s → DayOfThreeDays (day_of t r s)
    by-hours None r s h k l = tt
    by-hours (Some t) None s h k l = tt
    by-hours (Some t) (Some r) None h k l = tt
    by-hours (Some t) (Some r) (Some s) h k l = record { transit = h; sunrise = k; sunset = l }
