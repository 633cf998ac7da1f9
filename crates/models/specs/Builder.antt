-- parameters.rs: Configuration, which builds Parameters a field at a time.
use Rattle.std.specs.Prelude.{ℤ, Float}
use Rattle.float64.specs.Ops.{dec}
use Rattle.models.specs.declared.adjustments.TimeAdjustment.{TimeAdjustment}
use Rattle.models.specs.declared.high_altitude_rule.HighLatitudeRule.{HighLatitudeRule}
use Rattle.models.specs.declared.madhab.Madhab.{Madhab}
use Rattle.models.specs.declared.method.Method.{Method}
use Rattle.models.specs.declared.parameters.Configuration.{Configuration}
use Rattle.models.specs.declared.parameters.Parameters.{Parameters}
use Rattle.models.specs.declared.rounding.Rounding.{Rounding}
use Rattle.models.specs.declared.shafaq.Shafaq.{Shafaq}

abbrev pub configuration_of : Parameters → Configuration
configuration_of p = record { parameters = p }

-- the parameters with the given choices; the numbers stay
abbrev pub chosen_of : Parameters → Method → Madhab → HighLatitudeRule → Rounding → Shafaq → Parameters
chosen_of p method madhab rule rounding shafaq =
    record {
      method = method;
      fajr_angle = p.fajr_angle;
      maghrib_angle = p.maghrib_angle;
      isha_angle = p.isha_angle;
      isha_interval = p.isha_interval;
      madhab = madhab;
      high_latitude_rule = rule;
      adjustments = p.adjustments;
      method_adjustments = p.method_adjustments;
      rounding = rounding;
      shafaq = shafaq;
    }

-- the parameters with the given Maghrib and Isha angles, Isha interval and method's minutes; the rest stays
abbrev pub numbered_of : Parameters → Float → Float → ℤ → TimeAdjustment → Parameters
numbered_of p maghrib isha interval minutes =
    record {
      method = p.method;
      fajr_angle = p.fajr_angle;
      maghrib_angle = maghrib;
      isha_angle = isha;
      isha_interval = interval;
      madhab = p.madhab;
      high_latitude_rule = p.high_latitude_rule;
      adjustments = p.adjustments;
      method_adjustments = minutes;
      rounding = p.rounding;
      shafaq = p.shafaq;
    }

abbrev pub set_method : Configuration → Method → Configuration
set_method c x = let p = c.parameters in configuration_of (chosen_of p x p.madhab p.high_latitude_rule p.rounding p.shafaq)

abbrev pub set_madhab : Configuration → Madhab → Configuration
set_madhab c x = let p = c.parameters in configuration_of (chosen_of p p.method x p.high_latitude_rule p.rounding p.shafaq)

abbrev pub set_high_latitude_rule : Configuration → HighLatitudeRule → Configuration
set_high_latitude_rule c x = let p = c.parameters in configuration_of (chosen_of p p.method p.madhab x p.rounding p.shafaq)

abbrev pub set_rounding : Configuration → Rounding → Configuration
set_rounding c x = let p = c.parameters in configuration_of (chosen_of p p.method p.madhab p.high_latitude_rule x p.shafaq)

abbrev pub set_shafaq : Configuration → Shafaq → Configuration
set_shafaq c x = let p = c.parameters in configuration_of (chosen_of p p.method p.madhab p.high_latitude_rule p.rounding x)

abbrev pub set_maghrib_angle : Configuration → Float → Configuration
set_maghrib_angle c x =
    let p = c.parameters in configuration_of (numbered_of p x p.isha_angle p.isha_interval p.method_adjustments)

abbrev pub set_method_adjustments : Configuration → TimeAdjustment → Configuration
set_method_adjustments c x =
    let p = c.parameters in configuration_of (numbered_of p p.maghrib_angle p.isha_angle p.isha_interval x)

-- "isha_interval" sets the Isha angle to 0: an interval takes its place
unfoldable pub set_isha_interval : Configuration → ℤ → Configuration
unfolding dec
set_isha_interval c x = let p = c.parameters in configuration_of (numbered_of p p.maghrib_angle (dec 0 0) x p.method_adjustments)
