-- A day's numbers, settings and results as the exports take and return them.
use Rattle.schedule.specs.declared.in_force.HoursMinutes.{HoursMinutes}
use Rattle.schedule.specs.declared.prayer_times.PrayerTimes.{PrayerTimes}
use Rattle.refusals.specs.declared.Refusal.{Refusal}
use Rattle.std.specs.Prelude.{true, false, Float, Err, None, Ok, Option, Result, Some}
use Rattle.models.specs.Chosen.{setting_of}
use Rattle.models.specs.Numbers.{method_of, madhab_of, rule_of, rounding_of, shafaq_of, midnight_of, southern_of}
use Rattle.models.specs.Presets.{preset_of}
use Rattle.models.specs.declared.parameters.Parameters.{Parameters}
use Rattle.models.specs.declared.rules.Rules.{Rules}
use Rattle.models.specs.declared.setting.Setting.{Setting}
use Rattle.refusals.specs.Refusals.{no_refusal}
use Rattle.unit.specs.Unit.{coordinates_of}
use Rattle.schedule.specs.Times.{no_times}
use Rattle.probes.specs.declared.worked.ProbeSettings.{ProbeSettings}
use Rattle.probes.specs.declared.worked.ProbeRules.{ProbeRules}
use Rattle.probes.specs.declared.worked.ProbeDay.{ProbeDay}
use Rattle.probes.specs.declared.worked.ProbeRemaining.{ProbeRemaining}

-- the preset, with each field that an order can set taken from the settings
unfoldable pub parameters_from : ProbeSettings → Parameters
parameters_from s =
    let p = preset_of (method_of s.method) in
    record {
      method = p.method;
      fajr_angle = s.fajr_angle;
      maghrib_angle = p.maghrib_angle;
      isha_angle = s.isha_angle;
      isha_interval = s.isha_interval;
      madhab = madhab_of s.madhab;
      high_latitude_rule = rule_of s.high_latitude_rule;
      adjustments = s.minutes;
      method_adjustments = p.method_adjustments;
      rounding = rounding_of s.rounding;
      shafaq = shafaq_of s.shafaq;
    }

abbrev pub rules_from : ProbeRules → Rules
rules_from r = record { midnight = midnight_of r.carry; southern = southern_of r.southern }

abbrev pub setting_from : Float → Float → ProbeSettings → ProbeRules → Setting
setting_from latitude longitude settings chosen = setting_of (coordinates_of latitude longitude) (parameters_from settings) (rules_from chosen)

unfoldable pub probe_day_of : Result PrayerTimes Refusal → ProbeDay
probe_day_of (Ok t) = record { refusal = no_refusal; times = t }
probe_day_of (Err r) = record { refusal = r; times = no_times }

unfoldable pub probe_remaining_of : Option HoursMinutes → ProbeRemaining
probe_remaining_of (Some t) = record { found = true; hours = t.hours; minutes = t.minutes }
probe_remaining_of None = record { found = false; hours = 0; minutes = 0 }
