-- Two orders that are read as the same numbers have the same record, except for the town's offset. Assumes nothing.
use Rattle.std.specs.Prelude.{Ok}
use Rattle.prelude.proofs.Logic.{◌≡◌, refl, sym, ap, subst, ◌∙◌, Bool, true, false, List, ℕ, arith, pos}
use Rattle.integers.proofs.Integers.{P, natural}
use Rattle.fields.specs.{Values.Values, Values.values_of, Numbers.byte_of}
use Rattle.models.specs.declared.{method.Method.Method}
use Rattle.models.proofs.Models.{method_of, madhab_of, rule_of, rounding_of, shafaq_of, midnight_of, southern_of, preset_of, method_number_of}
use Rattle.models.proofs.Models.{madhab_number_of, rule_number_of, rounding_number_of, shafaq_number_of, midnight_number_of, southern_number_of}
use Rattle.models.specs.NumbersLaws.{method_back, madhab_back, rule_back, rounding_back, shafaq_back, midnight_back, southern_back}
use Rattle.order.specs.{declared.reading.Order.Order, Given.parameters_in}
use Rattle.order.specs.Reading.{order_of, reading_of, town_of}
use Rattle.order.proofs.{AcceptedLaws.brought, AcceptedLaws.read_accepted, ReadingLaws.read_passed}
use Rattle.order_numbers.specs.declared.numbers.OrderNumbers.{OrderNumbers}
use Rattle.order_numbers.specs.Numbers.{set_number_of, order_read, order_numbers_in, order_numbers_of}
use Rattle.order_numbers.specs.{Values.encode, Promises.again}
use Rattle.order_numbers.proofs.{RoundTrip.was_read, Again.written_again}
use Rattle.order_laws.specs.EitherForm.{with_town}
use Rattle.order_laws.proofs.EitherFormLaws.{answered-alike}
use Rattle.host_laws.specs.Written.{WrittenAnswersAlike}

-- the angle of maghrib is the method's, since no tag changes it
maghrib_own : (v : Values)
    → (order_of v).setting.parameters.maghrib_angle ≡ (preset_of (order_of v).setting.parameters.method).maghrib_angle
unfolding order_of parameters_in
maghrib_own v = ap (λ (m : Method). (preset_of m).maghrib_angle) (sym (brought (method_of (byte_of (v.value 6) 0))).named)

set_told : (a b : Bool) → set_number_of a ≡ set_number_of b → a ≡ b
unfolding set_number_of
set_told true true e = refl
set_told false false e = refl
set_told true false e = absurd (omega (arith, e))
set_told false true e = absurd (omega (arith, e))

-- two choices with the same number are the same
same_choice : {C : Type 0} (of : ℕ → C) (number : C → ℕ) → ((c : C) → of (number c) ≡ c) → (a b : C) → number a ≡ number b → a ≡ b
same_choice of number back a b e = sym (back a) ∙ ap of e ∙ back b

module _ (s t : List ℕ) (o p : Order) (x : reading_of s ≡ Ok o) (y : reading_of t ≡ Ok p) (town : List ℕ)
    (e : order_read p ≡ again (order_read o) town) where
  own : (q : Order) (l : List ℕ) → reading_of l ≡ Ok q
      → q.setting.parameters.maghrib_angle ≡ (preset_of q.setting.parameters.method).maghrib_angle
  own q l z = subst (λ (r : Order). r.setting.parameters.maghrib_angle ≡ (preset_of r.setting.parameters.method).maghrib_angle)
      (read_passed l q z).same (maghrib_own (values_of l))

  -- an interval that is read is not negative
  interval : (q : Order) (l : List ℕ) → reading_of l ≡ Ok q
      → q.setting.parameters.isha_interval ≡ pos (P q.setting.parameters.isha_interval)
  interval q l z =
      let from = (read_accepted l q z).parameters.isha_interval.from in
      natural q.setting.parameters.isha_interval (omega arith)

  parameters-told : p.setting.parameters ≡ o.setting.parameters
  unfolding order_read
  parameters-told =
      let a = p.setting.parameters in
      let b = o.setting.parameters in
      let method = same_choice method_of method_number_of method_back a.method b.method (λ i. (e i).method) in
      let madhab = same_choice madhab_of madhab_number_of madhab_back a.madhab b.madhab (λ i. (e i).madhab) in
      let rule = same_choice rule_of rule_number_of rule_back a.high_latitude_rule b.high_latitude_rule
      (λ i. (e i).high_latitude_rule) in
      let rounding = same_choice rounding_of rounding_number_of rounding_back a.rounding b.rounding (λ i. (e i).rounding) in
      let shafaq = same_choice shafaq_of shafaq_number_of shafaq_back a.shafaq b.shafaq (λ i. (e i).shafaq) in
      let minutes = interval p t y ∙ ap (λ (n : OrderNumbers). pos n.isha_interval) e ∙ sym (interval o s x) in
      let maghrib = own p t y ∙ ap (λ (m : Method). (preset_of m).maghrib_angle) method ∙ sym (own o s x) in
      let preset =
      (read_accepted t p y).parameters.preset ∙ ap (λ (m : Method). (preset_of m).method_adjustments) method
      ∙ sym (read_accepted s o x).parameters.preset in
      λ i. record {
        method = method i;
        fajr_angle = (e i).fajr_angle;
        maghrib_angle = maghrib i;
        isha_angle = (e i).isha_angle;
        isha_interval = minutes i;
        madhab = madhab i;
        high_latitude_rule = rule i;
        adjustments = (e i).minutes;
        method_adjustments = preset i;
        rounding = rounding i;
        shafaq = shafaq i;
      }

  pub record-told : with_town o p.town ≡ p
  unfolding order_read
  record-told =
      let a = p.setting.rules in
      let b = o.setting.rules in
      let midnight = same_choice midnight_of midnight_number_of midnight_back a.midnight b.midnight (λ i. (e i).choices.carry) in
      let southern = same_choice southern_of southern_number_of southern_back a.southern b.southern (λ i. (e i).choices.southern) in
      let set = set_told p.ramadan.set o.ramadan.set (ap (λ (n : OrderNumbers). n.choices.ramadan) e) in
      sym (λ i. record {
        town = p.town;
        date = (e i).date;
        rows = (e i).rows;
        setting = record {
          coordinates = (e i).coordinates;
          parameters = parameters-told i;
          rules = record { midnight = midnight i; southern = southern i };
        };
        clock = (e i).choices.clock;
        ramadan = record { set = set i; imsak = (e i).choices.imsak; shift = (e i).choices.shift };
      })

pub written_answers_alike : WrittenAnswersAlike
unfolding order_numbers_of order_numbers_in
written_answers_alike bytes z =
    let first = was_read bytes z in
    let n = order_numbers_of bytes in
    let other = encode n (town_of bytes) in
    let w = written_again bytes z in
    let second = was_read other (ap (λ (m : OrderNumbers). m.refusal.number) w.numbers) in
    let e : order_read second.0 ≡ again (order_read first.0) (town_of bytes) =
    sym (ap order_numbers_in second.1) ∙ w.numbers ∙ ap (λ (m : OrderNumbers). again m (town_of bytes)) (ap order_numbers_in first.1) in
    answered-alike bytes other first.0 second.0 first.1 second.1
    (record-told bytes other first.0 second.0 first.1 second.1 (town_of bytes) e) (sym w.named)
