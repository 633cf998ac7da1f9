-- parameters.rs: the parameters of the times.
use Rattle.std.specs.Prelude.{ℤ, pos, ◌+ℤ◌, Float}
use Rattle.float64.specs.Ops.{◌/ᶠ◌, dec}
use Rattle.models.specs.declared.adjustments.TimeAdjustment.{TimeAdjustment}
use Rattle.models.specs.declared.high_altitude_rule.HighLatitudeRule.{HighLatitudeRule}
use Rattle.models.specs.declared.high_altitude_rule.HighLatitudeRule.TheVariants.{MiddleOfTheNight, SeventhOfTheNight, TwilightAngle}
use Rattle.models.specs.declared.madhab.Madhab.TheVariants.{Shafi}
use Rattle.models.specs.declared.method.Method.TheVariants.{Other}
use Rattle.models.specs.declared.parameters.NightPortions.{NightPortions}
use Rattle.models.specs.declared.parameters.Parameters.{Parameters}
use Rattle.models.specs.declared.prayer.Prayer.{Prayer}
use Rattle.models.specs.declared.prayer.Prayer.TheVariants.{Fajr, Sunrise, Dhuhr, Asr, Maghrib, Isha, Qiyam, FajrTomorrow}
use Rattle.models.specs.declared.rounding.Rounding.TheVariants.{Nearest}
use Rattle.models.specs.declared.shafaq.Shafaq.TheVariants.{General}
use Rattle.models.specs.Minutes.{no_minutes}

-- `Parameters::new`: both angles are given, and the rest has default values
unfoldable pub parameters_new_of : Float → Float → Parameters
unfolding dec
parameters_new_of fajr isha =
    record {
      method = Other;
      fajr_angle = fajr;
      maghrib_angle = dec 0 0;
      isha_angle = isha;
      isha_interval = pos 0;
      madhab = Shafi;
      high_latitude_rule = MiddleOfTheNight;
      adjustments = no_minutes;
      method_adjustments = no_minutes;
      rounding = Nearest;
      shafaq = General;
    }

-- `night_portions`: the night's length is multiplied by them
unfoldable pub portions_of : HighLatitudeRule → Float → Float → NightPortions
unfolding dec
portions_of MiddleOfTheNight fajr isha = record { fajr = dec 1 0 /ᶠ dec 2 0; isha = dec 1 0 /ᶠ dec 2 0 }
portions_of SeventhOfTheNight fajr isha = record { fajr = dec 1 0 /ᶠ dec 7 0; isha = dec 1 0 /ᶠ dec 7 0 }
portions_of TwilightAngle fajr isha = record { fajr = fajr /ᶠ dec 60 0; isha = isha /ᶠ dec 60 0 }

abbrev pub night_portions_of : Parameters → NightPortions
night_portions_of p = portions_of p.high_latitude_rule p.fajr_angle p.isha_angle

-- "The six prayers are tag 11's, sunrise among them" (document 01); Qiyam and tomorrow's Fajr have no minutes of their own
unfoldable pub minutes_for : Prayer → TimeAdjustment → ℤ
minutes_for Fajr m = m.fajr
minutes_for Sunrise m = m.sunrise
minutes_for Dhuhr m = m.dhuhr
minutes_for Asr m = m.asr
minutes_for Maghrib m = m.maghrib
minutes_for Isha m = m.isha
minutes_for Qiyam m = pos 0
minutes_for FajrTomorrow m = pos 0

-- "their minutes (own plus method's)" (document 01)
unfoldable pub time_adjustments_of : Parameters → Prayer → ℤ
time_adjustments_of p prayer = minutes_for prayer p.adjustments +ℤ minutes_for prayer p.method_adjustments
