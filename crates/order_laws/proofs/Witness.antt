-- Two orders that meet the hypothesis of demand 3, so it can be met. The first has town P, 2026-06-21, one row, 10.0, 20.0, method 0. The
-- second has one minute more for Fajr, and its place as on the map, 10 degrees north and 20 degrees east. A third is the first with its
-- place as on the map. Document 01 alone accepts the first. At the end: an order of 400 rows, and an order for each refusal.
use Rattle.std.specs.Prelude.{Err, Ok}
use Rattle.prelude.proofs.Logic.{◌≡◌, refl, sym, subst, true, false, true≢false, List, [], ◌∷◌, ◌++◌, ℕ, zero, suc, ◌≤◌, arith, leb}
use Rattle.prelude.proofs.Logic.{le_z, T, replicate, leb-true, leb-false, map, eqb, eqb-true, cases}
use Rattle.prelude.specs.Lists.{listed}
use Rattle.float64.proofs.Floats.{le, neg, of_bits, round, dec}
use Rattle.calendar.proofs.Calendar.{leap_of, length_of, exists_of, days_before_of, ordinal_of, count_below, month_of, of_ordinal_of}
use Rattle.calendar.proofs.Calendar.{days_before_year_of, day_number_of, last_by, year_of, date_at_of, date_of_day_of, held_of, from_of}
use Rattle.fields.specs.Numbers.{unsigned_of, signed_at_of, bytes_number_of, bits_of, float_of}
use Rattle.fields.specs.Tags.{length_fits, choice_fits}
use Rattle.fields.specs.Fields.{length_at, fault_in, fault_of, walk_of, check_of}
use Rattle.fields.specs.Values.{collect_of, fields_of, values_in, has_of, value_of, values_of}
use Rattle.hijri.specs.Days as hijri
use Rattle.hijri.specs.Ramadan.{ramadan_start_of}
use Rattle.map_form.specs.Hundredths.{degrees_of, form_fits}
use Rattle.models.specs.declared.prayer.Prayer.{Prayer}
use Rattle.models.specs.declared.prayer.Prayer.TheVariants.{Fajr, Sunrise, Dhuhr, Asr, Maghrib, Isha, Qiyam, FajrTomorrow}
use Rattle.models.proofs.Models.{method_of, preset, preset_of, minutes_for, time_adjustments_of}
use Rattle.order.specs.Given.{date_in, rows_in, degrees_in, form_in, coordinate_in, minutes_in, byte_or, degrees_or, rounding_or, minutes_or}
use Rattle.order.specs.Given.{interval_or, parameters_in, rules_in, clock_in, ramadan_given, ramadan_in}
use Rattle.text.specs.Text.{printable}
use Rattle.order.specs.Ranges.{rows_fit, ramadan_rows, ramadan_fits, minute_fits, minutes_fit, interval_fits, look_up, fits_of, in_range_of}
use Rattle.order.specs.Reading.{first_failing, is_given_of, missing_of, both_forms_of, tags_from, out_of_range_of, order_of, wrong_start_of, first_of}
use Rattle.order.specs.Reading.{reading_of, town_in, town_of}
use Rattle.refusals.specs.{Refusals.refusal, declared.Refusal.Refusal}
use Rattle.order_laws.specs.FormerRows.{former_length_fits, former_fault_of, former_walk_of, former_check_of, former_rows_fit, former_in_range}
use Rattle.order_laws.specs.{FormerRows.former_order_of, FormerRows.former_reading_of, Minutes.LaterOrder}
use Rattle.order_laws.specs.{NothingBreaks.EachRefusalIsGiven, EitherForm.says_place, EitherForm.SamePlace}
use Rattle.order_laws.specs.Swapped.{Sent, Swapped}
use Rattle.order_laws.proofs.SwappedLaws.{other_form_is_read}

abbrev pub begun : List ℕ
begun = (1 ∷ 0 ∷ 1 ∷ 80 ∷ []) ++ (2 ∷ 0 ∷ 4 ∷ 7 ∷ 234 ∷ 6 ∷ 21 ∷ []) ++ (3 ∷ 0 ∷ 1 ∷ 1 ∷ [])

abbrev pub earlier : List ℕ
earlier =
    begun ++ (4 ∷ 0 ∷ 8 ∷ 64 ∷ 36 ∷ replicate 6 0) ++ (5 ∷ 0 ∷ 8 ∷ 64 ∷ 52 ∷ replicate 6 0) ++ (6 ∷ 0 ∷ 1 ∷ 0 ∷ [])

abbrev on_the_map : List ℕ
on_the_map = begun ++ (18 ∷ 0 ∷ 5 ∷ 0 ∷ 10 ∷ replicate 3 0) ++ (19 ∷ 0 ∷ 5 ∷ 0 ∷ 20 ∷ replicate 3 0) ++ (6 ∷ 0 ∷ 1 ∷ 0 ∷ [])

abbrev later : List ℕ
later = on_the_map ++ (11 ∷ 0 ∷ 12 ∷ 0 ∷ 1 ∷ replicate 10 0)

more_minutes_lem : (prayer : Prayer)
    → le_z (time_adjustments_of (order_of (values_of earlier)).setting.parameters prayer)
    (time_adjustments_of (order_of (values_of later)).setting.parameters prayer) ≡ true
unfolding values_in fields_of collect_of length_at unsigned_of signed_at_of minutes_in minutes_or byte_or degrees_or rounding_or interval_or parameters_in
    order_of time_adjustments_of preset preset_of method_of minutes_for
more_minutes_lem Fajr = refl
more_minutes_lem Sunrise = refl
more_minutes_lem Dhuhr = refl
more_minutes_lem Asr = refl
more_minutes_lem Maghrib = refl
more_minutes_lem Isha = refl
more_minutes_lem Qiyam = refl
more_minutes_lem FajrTomorrow = refl

-- one name for all that an order is read by: what opens it opens them
opened : ℕ
unfolding reading_of first_of is_given_of both_forms_of form_in coordinate_in form_fits degrees_of check_of walk_of fault_of fault_in length_at unsigned_of
    length_fits choice_fits values_in fields_of collect_of missing_of first_failing tags_from out_of_range_of in_range_of fits_of look_up printable rows_fit
    ramadan_rows minute_fits minutes_fit interval_fits date_in rows_in degrees_in minutes_in byte_or degrees_or rounding_or minutes_or interval_or
    parameters_in rules_in clock_in ramadan_in order_of wrong_start_of town_in town_of signed_at_of bytes_number_of bits_of float_of time_adjustments_of
    exists_of leap_of length_of days_before_of ordinal_of count_below month_of of_ordinal_of days_before_year_of day_number_of last_by year_of date_at_of
    date_of_day_of held_of from_of le neg of_bits round dec
opened = 0

pub can_be_met : LaterOrder earlier later
unfolding opened
can_be_met =
    record {
      first = order_of (values_of earlier);
      second = order_of (values_of later);
      first_read = refl;
      second_read = refl;
      town = refl;
      alike = refl;
      more = more_minutes_lem;
    }

-- ---- tag by tag
abbrev UpTo : ℕ → (ℕ → Type 0) → Type 0
UpTo zero P = P 0
UpTo (suc n) P = P (suc n) × UpTo n P

of_each : (P : ℕ → Type 0) (n : ℕ) → UpTo n P → (tag : ℕ) → tag ≤ n → P tag
of_each P zero each tag l = let e : 0 ≡ tag = omega arith in subst P e each
of_each P (suc n) each tag l =
    cases (leb tag n) (λ h. of_each P n each.1 tag (leb-true tag n h))
    (λ h. let k = leb-false tag n h in let e : suc n ≡ tag = omega arith in subst P e each.0)

infixr 20 ◌&◌
◌&◌ : {A B : Type 0} → A → B → A × B
◌&◌ a b = (a, b)

abbrev Same : ℕ → Type 0
Same tag = says_place tag ≡ false → (has_of earlier tag ≡ has_of on_the_map tag) × (value_of earlier tag ≡ value_of on_the_map tag)

-- from tag 20 down
each_same : UpTo 20 Same
unfolding values_in fields_of collect_of length_at unsigned_of
each_same =
    (λ e. (refl, refl)) & (λ e. absurd (true≢false e)) & (λ e. absurd (true≢false e)) & (λ e. (refl, refl)) & (λ e. (refl, refl))
    & (λ e. (refl, refl)) & (λ e. (refl, refl)) & (λ e. (refl, refl)) & (λ e. (refl, refl)) & (λ e. (refl, refl)) & (λ e. (refl, refl))
    & (λ e. (refl, refl)) & (λ e. (refl, refl)) & (λ e. (refl, refl)) & (λ e. (refl, refl)) & (λ e. absurd (true≢false e))
    & (λ e. absurd (true≢false e)) & (λ e. (refl, refl)) & (λ e. (refl, refl)) & (λ e. (refl, refl)) & (λ e. (refl, refl))

pub can_be_swapped : Swapped earlier on_the_map
unfolding opened
can_be_swapped =
    record {
      order = order_of (values_of earlier);
      first_read = refl;
      fields = refl;
      latitude = Sent.mapped refl refl refl;
      longitude = Sent.mapped refl refl refl;
      same_latitude = refl;
      same_longitude = refl;
      others = of_each Same 20 each_same;
    }

pub can_be_sent_either_way : SamePlace earlier on_the_map
can_be_sent_either_way = other_form_is_read earlier on_the_map can_be_swapped

pub and_back : Swapped on_the_map earlier
unfolding opened
and_back =
    record {
      order = order_of (values_of on_the_map);
      first_read = refl;
      fields = refl;
      latitude = Sent.floated refl refl;
      longitude = Sent.floated refl refl;
      same_latitude = refl;
      same_longitude = refl;
      others = λ tag l e. let same = of_each Same 20 each_same tag l e in (sym same.0, sym same.1);
    }

-- ---- document 01 alone accepted the first
pub was_accepted : former_reading_of earlier ≡ Ok (former_order_of (values_of earlier))
unfolding former_reading_of former_check_of former_walk_of former_fault_of former_length_fits former_rows_fit former_in_range former_order_of opened
was_accepted = refl

-- ---- request 4: a year in one order. Town P, 2026 in this month, on the 21st, with these rows, 10.0, 20.0, method 0; then further fields
abbrev order_with : ℕ → List ℕ → List ℕ → List ℕ
order_with month rows further =
    (1 ∷ 0 ∷ 1 ∷ 80 ∷ []) ++ (2 ∷ 0 ∷ 4 ∷ 7 ∷ 234 ∷ month ∷ 21 ∷ []) ++ rows ++ (4 ∷ 0 ∷ 8 ∷ 64 ∷ 36 ∷ replicate 6 0)
    ++ (5 ∷ 0 ∷ 8 ∷ 64 ∷ 52 ∷ replicate 6 0) ++ (6 ∷ 0 ∷ 1 ∷ 0 ∷ []) ++ further

abbrev year : List ℕ
year = order_with 6 (3 ∷ 0 ∷ 2 ∷ 1 ∷ 144 ∷ []) []

pub year_read : (reading_of year ≡ Ok (order_of (values_of year))) × ((order_of (values_of year)).rows ≡ 400)
unfolding opened
year_read = (refl, refl)

-- ---- an order for each refusal: document 01's examples, both forms of the latitude, and a Ramadan sheet that starts in June
abbrev Example : Type 0
Example = List ℕ × Refusal

abbrev month : ℕ → List ℕ → List ℕ
month number further = order_with number (3 ∷ 0 ∷ 1 ∷ 30 ∷ []) further

abbrev examples : List Example
examples =
    (1 ∷ 0 ∷ [], refusal 1 0)
    ∷ (99 ∷ 0 ∷ 0 ∷ [], refusal 2 0)
    ∷ (1 ∷ 0 ∷ 1 ∷ 80 ∷ 1 ∷ 0 ∷ 1 ∷ 80 ∷ [], refusal 3 4)
    ∷ ([], refusal 4 1)
    ∷ (month 13 [], refusal 5 2)
    ∷ (month 6 (18 ∷ 0 ∷ 5 ∷ 0 ∷ 10 ∷ replicate 3 0), refusal 15 18)
    ∷ (month 6 (20 ∷ 0 ∷ 2 ∷ 10 ∷ 1 ∷ []), refusal 18 2)
    ∷ []

abbrev AllRefused : List Example → Type 0
AllRefused [] = T true
AllRefused (example ∷ rest) = (reading_of example.0 ≡ Err example.1) × AllRefused rest

pub examples_are_refused : AllRefused examples
unfolding opened ramadan_fits ramadan_given ramadan_start_of hijri.held_of hijri.date_of_day_of hijri.date_at_of hijri.in_year_of hijri.year_of
    hijri.month_of hijri.year_start_of
examples_are_refused = (refl, (refl, (refl, (refl, (refl, (refl, (refl, tt)))))))

from_examples : (given : List Example) → AllRefused given → (number : ℕ) → listed (map (λ (e : Example). e.1.number) given) number ≡ true
    → (bytes : List ℕ) × (place : ℕ) × (reading_of bytes ≡ Err (refusal number place))
unfolding listed
from_examples [] all number l = absurd (true≢false (sym l))
from_examples (example ∷ rest) all number l =
    cases (eqb example.1.number number)
    (λ h. let same : example.1.number ≡ number = eqb-true example.1.number number h in
    (example.0, example.1.place, rw (← same) all.0))
    (λ h. from_examples rest all.1 number (simp h at l))

pub each_refusal_is_given : EachRefusalIsGiven
each_refusal_is_given number l = from_examples examples examples_are_refused number l
