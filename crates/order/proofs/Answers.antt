-- What both readers return, check by check. Assumes nothing.
use Rattle.std.specs.Prelude.{Err, Ok, Result}
use Rattle.prelude.proofs.Logic.{◌≡◌, sym, ap, ◌∙◌, List, [], ◌∷◌, ℕ, eq-eqb, ne_eqb}
use Rattle.fields.specs.declared.values.Fields.{Fields}
use Rattle.fields.specs.Fields.{check_of}
use Rattle.fields.specs.Values.{Values, fields_of, checked_of, values_in, values_of}
use Rattle.refusals.specs.declared.Refusal.{Refusal}
use Rattle.refusals.specs.Refusals.{unless_refused}
use Rattle.refusals.proofs.Refused.{was_refused, was_not}
use Rattle.order.specs.declared.reading.Order.{Order}
use Rattle.order.specs.Reading.{missing_of, both_forms_of, out_of_range_of, wrong_start_of, order_of, first_of, checks_of, reading_of}

-- the first check of a chain refuses, or the rest decides
module _ {A : Type 0} (r : Refusal) (value : A) (rest : List Refusal) (o : Order) where
  pub stops : (e : Refusal) → Err e ≡ unless_refused r value → Err e ≡ first_of (r ∷ rest) o
  unfolding first_of
  stops e h = let w = was_refused r value e h in ap Err w.0 ∙ simp (ne_eqb r.number 0 w.1)

  pub goes_on : (x : A) → Ok x ≡ unless_refused r value → first_of (r ∷ rest) o ≡ first_of rest o
  unfolding first_of
  goes_on x h = simp (eq-eqb r.number 0 (was_not r value x h).0)

-- ---- the checks of the values
module _ (v : Values) where
  abbrev o : Order
  o = order_of v

  abbrev start : Refusal
  start = wrong_start_of o.ramadan o.date

  abbrev pub Passes : Refusal → Type 0
  Passes r = ◌≡◌ {A = Result (Unit {0}) Refusal} (Ok tt) (unless_refused r tt)

  abbrev pub Refuses : Refusal → Refusal → Type 0
  Refuses r e = ◌≡◌ {A = Result (Unit {0}) Refusal} (Err e) (unless_refused r tt)

  pub by_missing : (e : Refusal) → Refuses (missing_of v.has) e → Err e ≡ first_of (checks_of v) o
  by_missing e h = stops (missing_of v.has) tt (both_forms_of v.has ∷ out_of_range_of v ∷ start ∷ []) o e h

  module _ (m : Passes (missing_of v.has)) where
    after-missing : first_of (checks_of v) o ≡ first_of (both_forms_of v.has ∷ out_of_range_of v ∷ start ∷ []) o
    after-missing = goes_on (missing_of v.has) tt (both_forms_of v.has ∷ out_of_range_of v ∷ start ∷ []) o tt m

    pub by-both_forms : (e : Refusal) → Refuses (both_forms_of v.has) e → Err e ≡ first_of (checks_of v) o
    by-both_forms e h = stops (both_forms_of v.has) tt (out_of_range_of v ∷ start ∷ []) o e h ∙ sym after-missing

    module _ (b : Passes (both_forms_of v.has)) where
      after-both : first_of (checks_of v) o ≡ first_of (out_of_range_of v ∷ start ∷ []) o
      after-both = after-missing ∙ goes_on (both_forms_of v.has) tt (out_of_range_of v ∷ start ∷ []) o tt b

      pub by-range : (e : Refusal) → Refuses (out_of_range_of v) e → Err e ≡ first_of (checks_of v) o
      by-range e h = stops (out_of_range_of v) tt (start ∷ []) o e h ∙ sym after-both

      module _ (i : Passes (out_of_range_of v)) where
        after-range : first_of (checks_of v) o ≡ first_of (start ∷ []) o
        after-range = after-both ∙ goes_on (out_of_range_of v) tt (start ∷ []) o tt i

        pub by-start : (e : Refusal) → Refuses start e → Err e ≡ first_of (checks_of v) o
        by-start e h = stops start tt [] o e h ∙ sym after-range

        pub by-none : Passes start → Ok o ≡ first_of (checks_of v) o
        unfolding first_of
        by-none h = sym (after-range ∙ goes_on start tt [] o tt h)

-- ---- the form of the fields first, then what they give
module _ (s : List ℕ) where
  pub by_fields : (e : Refusal) → Err e ≡ checked_of s → Err e ≡ reading_of s
  unfolding checked_of reading_of
  by_fields e h = stops (check_of s) (fields_of s) (checks_of (values_of s)) (order_of (values_of s)) e h

  pub by_values : (f : Fields) → Ok f ≡ checked_of s → first_of (checks_of (values_in s f)) (order_of (values_in s f)) ≡ reading_of s
  unfolding checked_of reading_of
  by_values f h =
      ap (λ (x : Fields). first_of (checks_of (values_in s x)) (order_of (values_in s x))) (was_not (check_of s) (fields_of s) f h).1
      ∙ sym (goes_on (check_of s) (fields_of s) (checks_of (values_of s)) (order_of (values_of s)) f h)
