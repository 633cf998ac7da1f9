-- Request 4: "A one-byte value means what it did, and every order accepted before gives the same values and prints the same sheet." First
-- what document 01 alone read and printed: tags 1 to 14, "rows, 1 byte, 1 to 250", the crate's own rules, nine columns. Then the statement,
-- which is proved in proofs/FormerRowsLaws.
use Rattle.schedule.specs.declared.prayer_times.PrayerTimes.{PrayerTimes}
use Rattle.std.specs.Prelude.{ℕ, zero, suc, ◌-◌, ◌≡◌, Bool, true, false, cond, not, ◌&&◌, ◌||◌, List, [], ◌∷◌, ◌++◌, ◌⊎◌, leb, ltb, eqb, pos, length, get_or, set, replicate, Err, Ok, Result}
use Rattle.refusals.specs.Refusals.{refusal, no_refusal, field_cut, field_unknown, field_again, tag_missing, out_of_range}
use Rattle.refusals.specs.declared.Refusal.{Refusal}
use Rattle.calendar.specs.Answers.{row_date_of}
use Rattle.calendar.specs.declared.dates.Date.{Date}
use Rattle.fields.specs.Fields.{header_length, length_at, next_field_at, longest_order}
use Rattle.fields.specs.Numbers.{byte_of}
use Rattle.fields.specs.Tags.{town_tag, date_tag, rows_tag, latitude_tag, longitude_tag, midnight_tag, tags, last_tag, length_fits}
use Rattle.fields.specs.Values.{value_of, Values, values_of}
use Rattle.lines.specs.Lines.{nine_of, row_text, refused_day_text}
use Rattle.models.specs.Chosen.{source_rules, setting_of}
use Rattle.models.specs.declared.setting.Setting.{Setting}
use Rattle.order.specs.Given.{date_in, degrees_in, parameters_in, no_ramadan}
use Rattle.order.specs.Ranges.{between, last_year, fits_of}
use Rattle.order.specs.Reading.{first_failing, required, tags_from, first_of, reading_of}
use Rattle.order.specs.declared.reading.Order.{Order}
use Rattle.sheets.specs.Rows.{sheet_text}
use Rattle.schedule.specs.Times.{worked_at}
use Rattle.text.specs.Text.{ascii}
use Rattle.unit.specs.Unit.{coordinates_of}

-- ---- the form of the fields
abbrev pub former_last : ℕ
former_last = 14

unfoldable pub former_length_fits : ℕ → ℕ → Bool
former_length_fits tag n = cond (eqb tag rows_tag) (eqb n 1) (length_fits tag n)

-- "header cut, unknown tag, tag again, wrong length, value cut"
unfoldable pub former_fault_of : List ℕ → (seen : List Bool) → ℕ → ℕ
former_fault_of s seen at =
    let tag = byte_of s at in
    let n = length_at s at in
    cond (ltb (length s - at) header_length) field_cut
    (cond (not (between 1 former_last tag)) field_unknown
    (cond (get_or seen tag false) field_again
    (cond (not (former_length_fits tag n)) field_unknown
    (cond (ltb (length s - at - header_length) n) field_cut 0))))

unfoldable pub former_walk_of : ℕ → List ℕ → (seen : List Bool) → ℕ → Refusal
former_walk_of zero s seen at = no_refusal
former_walk_of (suc k) s seen at =
    let fault = former_fault_of s seen at in
    let rest = former_walk_of k s (set seen (byte_of s at) true) (next_field_at s at) in
    cond (ltb at (length s)) (cond (eqb fault 0) rest (refusal fault at)) no_refusal

unfoldable pub former_check_of : List ℕ → Refusal
former_check_of s = cond (ltb longest_order (length s)) (refusal field_cut 0) (former_walk_of (length s) s (replicate (length tags) false) 0)

-- ---- the ranges: "rows, 1 byte, 1 to 250, last row by 2199-12-31"; those of the other tags are today's
unfoldable pub former_rows_fit : Date → List ℕ → Bool
former_rows_fit date v = between 1 250 (byte_of v 0) && leb (row_date_of date (byte_of v 0 - 1)).year last_year

unfoldable pub former_in_range : Values → ℕ → Bool
former_in_range v tag =
    cond (v.has tag) (cond (eqb tag rows_tag) (former_rows_fit (date_in (v.value date_tag)) (v.value rows_tag)) (fits_of v tag)) true

-- ---- the record
unfoldable pub former_order_of : Values → Order
former_order_of v =
    record {
      town = v.part town_tag;
      date = date_in (v.value date_tag);
      rows = byte_of (v.value rows_tag) 0;
      setting =
          setting_of (coordinates_of (degrees_in (v.value latitude_tag)) (degrees_in (v.value longitude_tag))) (parameters_in v) source_rules;
      clock = pos 0;
      ramadan = no_ramadan;
    }

-- "then missing tags, then ranges, both by rising tag"
unfoldable pub former_reading_of : List ℕ → Result Order Refusal
former_reading_of s =
    let v = values_of s in
    first_of
    (former_check_of s ∷ first_failing tag_missing v.has required ∷ first_failing out_of_range (former_in_range v) (tags_from former_last 1) ∷ [])
    (former_order_of v)

-- ---- the sheet: "the town, the header, one line a row: date, then nine times in the header's order"
unfoldable pub former_line : Date → Result PrayerTimes Refusal → List ℕ
former_line date (Ok t) = row_text date (nine_of t)
former_line date (Err r) = refused_day_text date r

abbrev pub former_setting : Order → Setting
former_setting o = setting_of o.setting.coordinates o.setting.parameters source_rules

unfoldable pub former_lines : Order → ℕ → List ℕ
former_lines o zero = []
former_lines o (suc n) = let date = row_date_of o.date n in former_lines o n ++ former_line date (worked_at date (former_setting o))

unfoldable pub former_text : List ℕ → Order → List ℕ
former_text town o = (town ++ ascii "\ndate fajr sunrise dhuhr asr maghrib isha middle qiyam tomorrow\n") ++ former_lines o o.rows

-- ---- whether the field at an offset is new in document 02: tags 15 to 20, or rows in two bytes
unfoldable pub new_at : List ℕ → ℕ → Bool
new_at s at = between midnight_tag last_tag (byte_of s at) || (eqb (byte_of s at) rows_tag && eqb (length_at s at) 2)

pub record AsBefore (s : List ℕ) : Type 0 where
  -- "every order accepted before gives the same values and prints the same sheet"
  pub accepted : (o : Order) → former_reading_of s ≡ Ok o
      → (reading_of s ≡ Ok o) × (sheet_text s ≡ former_text (value_of s town_tag) o)
  -- a refused order is refused by the same number and place, but for a field that was unknown and no longer is
  pub refused : (r : Refusal) → former_reading_of s ≡ Err r
      → (reading_of s ≡ Err r) ⊎ ((r.number ≡ field_unknown) × (new_at s r.place ≡ true))

abbrev pub OrdersAreAsBefore : Type 0
OrdersAreAsBefore = (s : List ℕ) → AsBefore s
