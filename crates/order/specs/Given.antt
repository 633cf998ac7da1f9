-- Document 01, "The order": what each tag's value gives, and the table's column "missing".
use Rattle.std.specs.Prelude.{ℕ, true, false, cond, List, eqb, Float, ℤ, pos, ◌-ℤ◌, length}
use Rattle.std.specs.Float.Ieee.{eq}
use Rattle.float64.specs.Ops.{dec}
use Rattle.calendar.specs.declared.dates.Date.{Date}
use Rattle.calendar.specs.Gregorian.{date_of}
use Rattle.fields.specs.Numbers.{byte_of, unsigned_of, signed_at_of, float_of}
use Rattle.fields.specs.Tags.{method_tag, madhab_tag, high_latitude_tag, rounding_tag, shafaq_tag, minutes_tag, fajr_angle_tag, isha_angle_tag}
use Rattle.fields.specs.Tags.{isha_interval_tag, midnight_tag, clock_tag, southern_tag, ramadan_tag}
use Rattle.fields.specs.Values.{Values}
use Rattle.hijri.specs.declared.ramadan.Ramadan.{Ramadan}
use Rattle.map_form.specs.declared.MapForm.{MapForm}
use Rattle.map_form.specs.Hundredths.{signed_hundredths_of, degrees_of}
use Rattle.models.specs.declared.adjustments.TimeAdjustment.{TimeAdjustment}
use Rattle.models.specs.declared.parameters.Parameters.{Parameters}
use Rattle.models.specs.declared.rounding.Rounding.{Rounding}
use Rattle.models.specs.declared.rules.Rules.{Rules}
use Rattle.models.specs.Minutes.{six_minutes_of, no_minutes}
use Rattle.models.specs.Numbers.{method_of, madhab_of, rule_of, rounding_of, shafaq_of, midnight_of, southern_of}
use Rattle.models.specs.Presets.{preset_of}

-- ---- what the bytes of a value give: "year (2 bytes), month, day"
unfoldable pub date_in : List ℕ → Date
date_in v = date_of (unsigned_of v 0) (byte_of v 2) (byte_of v 3)

-- "rows, 1 byte"; request 4: "may now also have two bytes"
unfoldable pub rows_in : List ℕ → ℕ
rows_in v = cond (eqb (length v) 2) (unsigned_of v 0) (byte_of v 0)

-- "tags 4, 5, 12 and 13 a float"; "-0.0 is read as 0.0"
unfoldable pub degrees_in : List ℕ → Float
degrees_in v = cond (eq (float_of v) (dec 0 0)) (dec 0 0) (float_of v)

-- request 7: "five bytes, sign (0 or 1, 1 is south or west) and those four", which are "degrees, minutes, seconds and hundredths"
unfoldable pub form_in : List ℕ → MapForm
form_in v = record { sign = byte_of v 0; degrees = byte_of v 1; minutes = byte_of v 2; seconds = byte_of v 3; hundredths = byte_of v 4 }

-- "six minutes, Fajr to Isha"
unfoldable pub minutes_in : List ℕ → TimeAdjustment
minutes_in v = six_minutes_of (signed_at_of v 0) (signed_at_of v 2) (signed_at_of v 4) (signed_at_of v 6) (signed_at_of v 8) (signed_at_of v 10)

-- ---- what a tag gives; if it is missing: "refused", a number, "zeros", or "the method's"
unfoldable pub byte_or : Values → ℕ → ℕ → ℕ
byte_or v tag missing = cond (v.has tag) (byte_of (v.value tag) 0) missing

unfoldable pub degrees_or : Values → ℕ → Float → Float
degrees_or v tag missing = cond (v.has tag) (degrees_in (v.value tag)) missing

unfoldable pub rounding_or : Values → Rounding → Rounding
rounding_or v missing = cond (v.has rounding_tag) (rounding_of (byte_of (v.value rounding_tag) 0)) missing

unfoldable pub minutes_or : Values → TimeAdjustment → TimeAdjustment
minutes_or v missing = cond (v.has minutes_tag) (minutes_in (v.value minutes_tag)) missing

unfoldable pub interval_or : Values → ℤ → ℤ
interval_or v missing = cond (v.has isha_interval_tag) (pos (unsigned_of (v.value isha_interval_tag) 0)) missing

-- request 7: "Tags 18 and 19 stand for latitude and longitude": the form on the map if it is given, else the float
unfoldable pub coordinate_in : Values → (float map : ℕ) → Float
coordinate_in v float map = cond (v.has map) (degrees_of (signed_hundredths_of (form_in (v.value map)))) (degrees_in (v.value float))

-- "By `Method::parameters`, each method brings its own angles, minutes and rounding; tags 7 to 14 then set their one field each, so tag 14
-- leaves the Isha angle, and tag 11 sets `adjustments`, not `method_adjustments`."
unfoldable pub parameters_in : Values → Parameters
parameters_in v =
    let preset = preset_of (method_of (byte_of (v.value method_tag) 0)) in
    record {
      method = preset.method;
      fajr_angle = degrees_or v fajr_angle_tag preset.fajr_angle;
      maghrib_angle = preset.maghrib_angle;
      isha_angle = degrees_or v isha_angle_tag preset.isha_angle;
      isha_interval = interval_or v preset.isha_interval;
      madhab = madhab_of (byte_or v madhab_tag 1);
      high_latitude_rule = rule_of (byte_or v high_latitude_tag 0);
      adjustments = minutes_or v no_minutes;
      method_adjustments = preset.method_adjustments;
      rounding = rounding_or v preset.rounding;
      shafaq = shafaq_of (byte_or v shafaq_tag 0);
    }

-- Request 1: "Tag 15 (one byte, 0 or 1, missing is 0) chooses: 0 is today's rule, 1 carries." Request 3: "Tag 17 (one byte, 0 or 1, missing
-- is 0) chooses their rule with 1."
unfoldable pub rules_in : Values → Rules
rules_in v = record { midnight = midnight_of (byte_or v midnight_tag 0); southern = southern_of (byte_or v southern_tag 0) }

-- Request 2: "Tag 16 (signed 16-bit minutes, -840 to 840, missing is 0) is added to the UTC instant", by the cells alone.
unfoldable pub clock_in : Values → ℤ
clock_in v = cond (v.has clock_tag) (signed_at_of (v.value clock_tag) 0) (pos 0)

-- Request 12: "Tag 20 holds imsak minutes and shift, one byte each, the shift stored plus 1."
unfoldable pub ramadan_given : List ℕ → Ramadan
ramadan_given v = record { set = true; imsak = byte_of v 0; shift = pos (byte_of v 1) -ℤ pos 1 }

abbrev pub no_ramadan : Ramadan
no_ramadan = record { set = false; imsak = 0; shift = pos 0 }

unfoldable pub ramadan_in : Values → Ramadan
ramadan_in v = cond (v.has ramadan_tag) (ramadan_given (v.value ramadan_tag)) no_ramadan
