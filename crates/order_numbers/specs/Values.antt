-- The fields of an order that says all that the struct holds, by rising tag: every tag but those of the map form, and tag 20 only for a
-- Ramadan sheet. A value that no order can have is written out of range, under its own tag.
use Rattle.std.specs.Prelude.{ℕ, ◌+◌, Bool, cond, ◌&&◌, List, [], ◌∷◌, ◌++◌, leb, eqb, pos, take}
use Rattle.std.specs.Int.Signed.{le_z}
use Rattle.calendar.specs.declared.dates.Date.{Date}
use Rattle.fields.specs.Tags.{town_tag, date_tag, rows_tag, latitude_tag, longitude_tag, method_tag, madhab_tag, high_latitude_tag, rounding_tag}
use Rattle.fields.specs.Tags.{shafaq_tag, minutes_tag, fajr_angle_tag, isha_angle_tag, isha_interval_tag, midnight_tag, clock_tag, southern_tag}
use Rattle.fields.specs.Tags.{ramadan_tag, longest_town}
use Rattle.models.specs.declared.adjustments.TimeAdjustment.{TimeAdjustment}
use Rattle.order.specs.Ranges.{most_in_byte}
use Rattle.order_numbers.specs.declared.numbers.Choices.{Choices}
use Rattle.order_numbers.specs.declared.numbers.OrderNumbers.{OrderNumbers}
use Rattle.order_numbers.specs.declared.put.Line.{Line}
use Rattle.order_numbers.specs.Bytes.{byte_for, word_for, two_bytes, signed_bytes, shift_byte, float_bytes, joined}

-- "town, 1 to 40 bytes": a longer one is cut behind its 41st byte, and is still too long
abbrev pub town_bytes : List ℕ → List ℕ
town_bytes town = take (longest_town + 1) town

-- "year (2 bytes), month, day"
unfoldable pub date_bytes : Date → List ℕ
date_bytes d = two_bytes (word_for d.year) ++ (byte_for d.month ∷ byte_for d.day ∷ [])

-- "rows, 1 byte, 1 to 250"; request 4: "its value may now also have two bytes"
unfoldable pub rows_bytes : ℕ → List ℕ
rows_bytes n = cond (leb n most_in_byte) (n ∷ []) (two_bytes (word_for n))

-- "six minutes, Fajr to Isha"
unfoldable pub minutes_bytes : TimeAdjustment → List ℕ
minutes_bytes m =
    signed_bytes m.fajr ++ signed_bytes m.sunrise ++ signed_bytes m.dhuhr ++ signed_bytes m.asr ++ signed_bytes m.maghrib
    ++ signed_bytes m.isha

-- tags 1 to 3, 4 to 10, 11 to 14, 15 to 17, 20
abbrev pub start_fields : Date → ℕ → List ℕ → List (ℕ × List ℕ)
start_fields date rows town = (town_tag, town_bytes town) ∷ (date_tag, date_bytes date) ∷ (rows_tag, rows_bytes rows) ∷ []

abbrev pub setting_fields : OrderNumbers → List (ℕ × List ℕ)
setting_fields n =
    (latitude_tag, float_bytes n.coordinates.latitude)
    ∷ (longitude_tag, float_bytes n.coordinates.longitude)
    ∷ (method_tag, byte_for n.method ∷ [])
    ∷ (madhab_tag, byte_for n.madhab ∷ [])
    ∷ (high_latitude_tag, byte_for n.high_latitude_rule ∷ [])
    ∷ (rounding_tag, byte_for n.rounding ∷ [])
    ∷ (shafaq_tag, byte_for n.shafaq ∷ [])
    ∷ []

abbrev pub time_fields : OrderNumbers → List (ℕ × List ℕ)
time_fields n =
    (minutes_tag, minutes_bytes n.minutes)
    ∷ (fajr_angle_tag, float_bytes n.fajr_angle)
    ∷ (isha_angle_tag, float_bytes n.isha_angle)
    ∷ (isha_interval_tag, two_bytes (word_for n.isha_interval))
    ∷ []

abbrev pub rule_fields : Choices → List (ℕ × List ℕ)
rule_fields c = (midnight_tag, byte_for c.carry ∷ []) ∷ (clock_tag, signed_bytes c.clock) ∷ (southern_tag, byte_for c.southern ∷ []) ∷ []

-- "Tag 20 holds imsak minutes and shift, one byte each, the shift stored plus 1." A sheet that is not Ramadan's has neither. Any other
-- struct is written out of range.
unfoldable pub ramadan_bytes : Choices → List ℕ
ramadan_bytes c = cond (eqb c.ramadan 1) (byte_for c.imsak ∷ shift_byte c.shift ∷ []) (255 ∷ 255 ∷ [])

unfoldable pub unsaid : Choices → Bool
unsaid c = eqb c.ramadan 0 && eqb c.imsak 0 && le_z c.shift (pos 0) && le_z (pos 0) c.shift

unfoldable pub ramadan_fields : Choices → List (ℕ × List ℕ)
ramadan_fields c = cond (unsaid c) [] ((ramadan_tag, ramadan_bytes c) ∷ [])

abbrev pub fields_for : OrderNumbers → List ℕ → List (ℕ × List ℕ)
fields_for n town =
    start_fields n.date n.rows town ++ setting_fields n ++ time_fields n ++ rule_fields n.choices ++ ramadan_fields n.choices

-- the bytes of the order
unfoldable pub encode : OrderNumbers → List ℕ → List ℕ
encode n town = joined (fields_for n town)

-- room for all of them, with a town that is cut
abbrev pub line_length : ℕ
line_length = 158

-- what is put into a line
abbrev pub written : Line → List ℕ
written line = take line.end line.bytes
