-- Document 01, "The order": what reading any bytes returns.
use Rattle.std.specs.Prelude.{ℕ, zero, suc, ◌+◌, Bool, cond, not, ◌&&◌, ◌||◌, List, [], ◌∷◌, eqb, Err, Ok, Result}
use Rattle.calendar.specs.Days.{day_number_of}
use Rattle.calendar.specs.declared.dates.Date.{Date}
use Rattle.fields.specs.Fields.{check_of}
use Rattle.fields.specs.Tags.{town_tag, date_tag, rows_tag, latitude_tag, longitude_tag, method_tag, last_tag}
use Rattle.fields.specs.Values.{part_in, Values, values_of}
use Rattle.hijri.specs.Ramadan.{ramadan_start_of}
use Rattle.hijri.specs.declared.ramadan.Ramadan.{Ramadan}
use Rattle.map_form.specs.Written.{map_latitude_tag, map_longitude_tag}
use Rattle.models.specs.Chosen.{setting_of}
use Rattle.refusals.specs.Refusals.{refusal, no_refusal, tag_missing, out_of_range, both_forms, not_first_of_ramadan}
use Rattle.refusals.specs.declared.Refusal.{Refusal}
use Rattle.unit.specs.Unit.{coordinates_of}
use Rattle.order.specs.declared.reading.Order.{Order}
use Rattle.order.specs.Given.{date_in, rows_in, coordinate_in, parameters_in, rules_in, clock_in, ramadan_in}
use Rattle.order.specs.Ranges.{look_up, in_range_of}

-- the refusal of the first tag that does not pass: `number`, with the tag as its place
unfoldable pub first_failing : ℕ → (ℕ → Bool) → List ℕ → Refusal
first_failing number passes [] = no_refusal
first_failing number passes (tag ∷ rest) = cond (passes tag) (first_failing number passes rest) (refusal number tag)

-- 4 is "tag missing": the tags that have "refused" in the column "missing"
abbrev pub required : List ℕ
required = town_tag ∷ date_tag ∷ rows_tag ∷ latitude_tag ∷ longitude_tag ∷ method_tag ∷ []

-- request 7: "Either form keeps a coordinate from being missing"
unfoldable pub is_given_of : (ℕ → Bool) → ℕ → Bool
is_given_of has tag =
    look_up tag ((latitude_tag, has latitude_tag || has map_latitude_tag) ∷ (longitude_tag, has longitude_tag || has map_longitude_tag) ∷ [])
    (has tag)

unfoldable pub missing_of : (ℕ → Bool) → Refusal
missing_of has = first_failing tag_missing (is_given_of has) required

-- request 7: "Both forms for one coordinate are refused by 15, with 18 or 19 as place, latitude first"
unfoldable pub both_forms_of : (ℕ → Bool) → Refusal
both_forms_of has =
    cond (has latitude_tag && has map_latitude_tag) (refusal both_forms map_latitude_tag)
    (cond (has longitude_tag && has map_longitude_tag) (refusal both_forms map_longitude_tag) no_refusal)

-- 5 is "value out of range, or a day the month lacks"; "both by rising tag"
unfoldable pub tags_from : ℕ → ℕ → List ℕ
tags_from zero tag = []
tags_from (suc k) tag = tag ∷ tags_from k (tag + 1)

unfoldable pub out_of_range_of : Values → Refusal
out_of_range_of v = first_failing out_of_range (in_range_of v) (tags_from last_tag 1)

-- the record of an order that nothing refuses
unfoldable pub order_of : Values → Order
order_of v =
    record {
      town = v.part town_tag;
      date = date_in (v.value date_tag);
      rows = rows_in (v.value rows_tag);
      setting =
          setting_of (coordinates_of (coordinate_in v latitude_tag map_latitude_tag) (coordinate_in v longitude_tag map_longitude_tag))
          (parameters_in v) (rules_in v);
      clock = clock_in v;
      ramadan = ramadan_in v;
    }

-- request 12: "A start other than the shifted 1 Ramadan (month 9) is refused by 18, place 2", if tag 20 is set
unfoldable pub wrong_start_of : Ramadan → Date → Refusal
wrong_start_of ramadan date =
    cond (ramadan.set && not (ramadan_start_of (day_number_of date) ramadan.shift)) (refusal not_first_of_ramadan date_tag) no_refusal

-- the first refusal that refuses something; if none does, the record
unfoldable pub first_of : List Refusal → Order → Result Order Refusal
first_of [] order = Ok order
first_of (r ∷ rest) order = cond (eqb r.number 0) (first_of rest order) (Err r)

-- "then missing tags", then both forms of a coordinate, "after missing tags and before ranges", "then ranges", then the start of a Ramadan
-- sheet, "after all ranges and before the day"
abbrev pub checks_of : Values → List Refusal
checks_of v = missing_of v.has ∷ both_forms_of v.has ∷ out_of_range_of v ∷ wrong_start_of (order_of v).ramadan (order_of v).date ∷ []

-- "Order of checks: length over 1,024; then field by field", and then the checks above
unfoldable pub reading_of : List ℕ → Result Order Refusal
reading_of s = first_of (check_of s ∷ checks_of (values_of s)) (order_of (values_of s))

-- "The town's name is handed back as that part of the order itself, an empty part where the order is refused."
unfoldable pub town_in : List ℕ → Result Order Refusal → List ℕ
town_in s (Ok order) = part_in s order.town
town_in s (Err refusal) = []

unfoldable pub town_of : List ℕ → List ℕ
town_of s = town_in s (reading_of s)
