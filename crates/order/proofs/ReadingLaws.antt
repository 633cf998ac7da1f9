-- What follows for the checks and for the town if an order is read, or if it is refused. Assumes nothing.
use Rattle.std.specs.Prelude.{Err, Ok}
use Rattle.prelude.proofs.Logic.{◌≡◌, refl, sym, ap, subst, ◌∙◌, Bool, true, false, not, ◌&&◌, ◌||◌, List, [], ◌∷◌, ℕ, ◌+◌, ◌-◌, ◌≤◌, ◌<◌}
use Rattle.prelude.proofs.Logic.{arith, eqb, lit≤, length, get_or, eqb-true, eqb-false, arms, cases}
use Rattle.calendar.specs.Days.{day_number_of}
use Rattle.calendar.specs.declared.dates.Date.{Date}
use Rattle.fields.specs.Fields.{check_of}
use Rattle.fields.specs.Tags.{last_tag, longest_town}
use Rattle.fields.specs.Values.{has_of, value_of, part_in, Values, values_in, values_of}
use Rattle.fields.specs.Lookup.{offset_of}
use Rattle.fields.proofs.FieldsLaws.{check_small, fits_between}
use Rattle.fields.proofs.LookupLaws.{first, value-fits}
use Rattle.hijri.specs.Ramadan.{ramadan_start_of}
use Rattle.hijri.specs.declared.ramadan.Ramadan.{Ramadan}
use Rattle.refusals.specs.declared.Refusal.{Refusal}
use Rattle.order.specs.declared.reading.Order.{Order}
use Rattle.text.specs.Text.{printable}
use Rattle.order.specs.Ranges.{look_up, fits_of, in_range_of}
use Rattle.order.specs.Reading.{required, is_given_of, missing_of, both_forms_of, out_of_range_of, tags_from, order_of, wrong_start_of, first_of}
use Rattle.order.specs.Reading.{reading_of, town_in, town_of}
use Rattle.order.proofs.Tags.{all_pass, failing_number, tags_from_lem, tags_length}

-- 15 or 18
pub record Later (n : ℕ) : Type 0 where
  pub most : n ≤ 18
  pub otherwise : n < 18 → n ≡ 15

-- a number from 0 to 5, or 15 or 18
abbrev Small : ℕ → Type 0
Small n = 6 ≤ n → Later n

-- from 1 to 5, or 15 or 18
pub record Refusing (n : ℕ) : Type 0 where
  pub some : 1 ≤ n
  pub which : Small n

up_to_five : (n : ℕ) → n ≤ 5 → Small n
up_to_five n l h = absurd (omega arith)

-- ---- the refusals, one after another
module _ (r : Refusal) (rest : List Refusal) (o : Order) where
  pub passed_on : (order : Order) → first_of (r ∷ rest) o ≡ Ok order → (r.number ≡ 0) × (first_of rest o ≡ Ok order)
  unfolding first_of
  passed_on order e =
      cases (eqb r.number 0) (λ h. (eqb-true r.number 0 h, simp h at e)) (λ h. let z : ◌≡◌ {A = ℕ} 0 1 = cc in absurd (omega arith))

  -- the result is one of the refusals whose number is not 0
  refused-one : (x : Refusal) → Small r.number → (first_of rest o ≡ Err x → Refusing x.number)
      → first_of (r ∷ rest) o ≡ Err x → Refusing x.number
  unfolding first_of
  refused-one x small later e =
      cases (eqb r.number 0) (λ h. later (simp h at e))
      (λ h. let z : r ≡ x = cc in
      let n = ap (λ (y : Refusal). y.number) z in
      let m = eqb-false r.number 0 h in
      record { some = omega arith; which = λ l. subst Later n (small (omega arith)) })

-- ---- an order that is read has passed every check
pub record Passed (s : List ℕ) (order : Order) : Type 0 where
  pub fields : (check_of s).number ≡ 0
  pub given : (missing_of (has_of s)).number ≡ 0
  pub single : (both_forms_of (has_of s)).number ≡ 0
  pub ranges : (out_of_range_of (values_of s)).number ≡ 0
  pub start : (wrong_start_of (order_of (values_of s)).ramadan (order_of (values_of s)).date).number ≡ 0
  pub same : order_of (values_of s) ≡ order

pub read_passed : (s : List ℕ) (order : Order) → reading_of s ≡ Ok order → Passed s order
unfolding reading_of first_of
read_passed s order e =
    let v = values_of s in
    let start = wrong_start_of (order_of v).ramadan (order_of v).date in
    let a = passed_on (check_of s) (missing_of (has_of s) ∷ both_forms_of (has_of s) ∷ out_of_range_of v ∷ start ∷ []) (order_of v) order e in
    let b = passed_on (missing_of (has_of s)) (both_forms_of (has_of s) ∷ out_of_range_of v ∷ start ∷ []) (order_of v) order a.1 in
    let c = passed_on (both_forms_of (has_of s)) (out_of_range_of v ∷ start ∷ []) (order_of v) order b.1 in
    let d = passed_on (out_of_range_of v) (start ∷ []) (order_of v) order c.1 in
    let f = passed_on start [] (order_of v) order d.1 in
    let o : Ok (order_of v) ≡ Ok order = f.1 in
    record { fields = a.0; given = b.0; single = c.0; ranges = d.0; start = f.0; same = cc }

both_forms_number : (has : ℕ → Bool) → Small (both_forms_of has).number
unfolding both_forms_of
both_forms_number has =
    arms (λ (x : Refusal). Small x.number) (has 4 && has 18) (λ t l. record { most = lit≤ tt; otherwise = λ h. refl })
    (λ t. arms (λ (x : Refusal). Small x.number) (has 5 && has 19) (λ u l. record { most = lit≤ tt; otherwise = λ h. refl })
    (λ u l. absurd (omega arith)))

start_number : (ramadan : Ramadan) (date : Date) → Small (wrong_start_of ramadan date).number
unfolding wrong_start_of
start_number ramadan date =
    arms (λ (x : Refusal). Small x.number) (ramadan.set && not (ramadan_start_of (day_number_of date) ramadan.shift))
    (λ t l. record { most = lit≤ tt; otherwise = λ h. absurd (omega arith) }) (λ t l. absurd (omega arith))

-- a refusal's number is from 1 to 5, or 15 or 18
pub refused_by : (s : List ℕ) (r : Refusal) → reading_of s ≡ Err r → Refusing r.number
unfolding reading_of first_of missing_of out_of_range_of
refused_by s r e =
    let v = values_of s in
    let f = check_small s in
    let m = failing_number 4 (is_given_of (has_of s)) required in
    let start = wrong_start_of (order_of v).ramadan (order_of v).date in
    refused-one (check_of s) (missing_of (has_of s) ∷ both_forms_of (has_of s) ∷ out_of_range_of v ∷ start ∷ []) (order_of v) r
    (up_to_five (check_of s).number (omega arith))
    (refused-one (missing_of (has_of s)) (both_forms_of (has_of s) ∷ out_of_range_of v ∷ start ∷ []) (order_of v) r
    (up_to_five (missing_of (has_of s)).number (omega arith))
    (refused-one (both_forms_of (has_of s)) (out_of_range_of v ∷ start ∷ []) (order_of v) r (both_forms_number (has_of s))
    (refused-one (out_of_range_of v) (start ∷ []) (order_of v) r
    (up_to_five (out_of_range_of v).number (failing_number 5 (in_range_of v) (tags_from last_tag 1)))
    (refused-one start [] (order_of v) r (start_number (order_of v).ramadan (order_of v).date)
    (λ no. let z : ◌≡◌ {A = ℕ} 0 1 = cc in absurd (omega arith))))))
    e

-- ---- if no tag fails, each passes
pub has_required : (has : ℕ → Bool) → (missing_of has).number ≡ 0 → (i : ℕ) → i < 6 → is_given_of has (get_or required i 0) ≡ true
unfolding missing_of
has_required has e i l = all_pass 4 (is_given_of has) required (lit≤ tt) e i l

-- a coordinate that is given, but not as on the map, is given as a float
pub one_form : (has : ℕ → Bool) (float map : ℕ) → (has float || has map) ≡ true → has map ≡ false → has float ≡ true
one_form has float map either other = cases (has float) (λ t. t) (λ t. cc)

pub fits_given : (v : Values) → (out_of_range_of v).number ≡ 0 → (tag : ℕ) → 1 ≤ tag → tag ≤ last_tag → v.has tag ≡ true → fits_of v tag ≡ true
unfolding out_of_range_of in_range_of
fits_given v e tag l h has =
    let n = tags_length last_tag 1 in
    let p = all_pass 5 (in_range_of v) (tags_from last_tag 1) (lit≤ tt) e (tag - 1) (omega arith) in
    let t : get_or (tags_from last_tag 1) (tag - 1) 0 ≡ tag = tags_from_lem last_tag 1 (tag - 1) (omega arith) ∙ omega arith in
    simp has at (rw t at p)

-- ---- its town: 1 to 40 bytes of printable ASCII, which are a part of the order
pub record Town (s town : List ℕ) (order : Order) : Type 0 where
  pub part : town ≡ part_in s order.town
  pub begins : order.town.at ≡ offset_of s 1 + 3
  pub long : order.town.length ≡ length town
  pub size : (1 ≤ length town) × (length town ≤ longest_town)
  pub text : printable town ≡ true

town_of_lem : (s : List ℕ) (order : Order) → Passed s order → Town s (part_in s order.town) order
unfolding fits_of look_up is_given_of order_of values_in
town_of_lem s order passed =
    let has = has_required (has_of s) passed.given 0 (lit≤ tt) in
    let field = first s 1 passed.fields in
    let is : value_of s 1 ≡ part_in s order.town = ap (λ (o : Order). part_in s o.town) passed.same in
    record {
      part = refl;
      begins = ap (λ (o : Order). o.town.at) (sym passed.same) ∙ field.begins has;
      long = ap (λ (o : Order). o.town.length) (sym passed.same) ∙ field.long ∙ ap (length {A = ℕ}) is;
      size = rw (← is) (fits_between 1 (length (value_of s 1)) (value-fits s 1 passed.fields has));
      text = rw (← is) (fits_given (values_of s) passed.ranges 1 (lit≤ tt) (lit≤ tt) has);
    }

-- it is the value of tag 1
pub town_value : (s : List ℕ) (order : Order) → reading_of s ≡ Ok order → town_of s ≡ value_of s 1
unfolding town_of town_in order_of values_in
town_value s order e = simp e (ap (λ (o : Order). part_in s o.town) (sym (read_passed s order e).same))

pub read_town : (s : List ℕ) (order : Order) → reading_of s ≡ Ok order → Town s (town_of s) order
unfolding town_of town_in
read_town s order e = simp e (town_of_lem s order (read_passed s order e))

pub refused_town : (s : List ℕ) (r : Refusal) → reading_of s ≡ Err r → town_of s ≡ []
unfolding town_of town_in
refused_town s r e = simp e
