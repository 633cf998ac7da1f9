-- What is collected of an order whose form is right, tag by tag: the whole value of the first field with the tag, and nothing if there is
-- none. Proved by recursion over both walks and the search. Assumes nothing.
use Rattle.prelude.proofs.Logic.{◌≡◌, refl, sym, ap, ◌∙◌, true, false, List, [], ℕ, zero, suc, ◌≤◌, ◌<◌, ◌+◌, arith, ltb, eqb, length}
use Rattle.prelude.proofs.Logic.{get_or, set, take, drop, replicate, get_or-replicate, length-set, List·getD-eq-default, length-take}
use Rattle.prelude.proofs.Logic.{length-drop, drop_of_length-le, take-nil, get_or-set_same, get_or-set_other, lt-ltb, le-ltb, eq-eqb, ne_eqb}
use Rattle.prelude.proofs.Logic.{ltb-true, ltb-false, eqb-true, eqb-false, cases}
use Rattle.fields.specs.declared.{values.Fields.Fields, values.Part.Part}
use Rattle.fields.specs.Numbers.{byte_of}
use Rattle.fields.specs.Tags.{tags, length_fits}
use Rattle.fields.specs.Fields.{length_at, next_field_at, walk_of, check_of}
use Rattle.fields.specs.Values.{part_of, no_part, no_fields, put_of, collect_of, fields_of, part_for, has_in, values_in, has_of, value_of}
use Rattle.fields.specs.Lookup.{first_from, offset_of, FirstField, FirstFieldIsCollected}
use Rattle.fields.proofs.FieldsLaws.{Good, fault_none, good_row, walk_good, check_none}
use Rattle.fields.proofs.Collecting.{seen_in, seen_set, seen_collected}
use Rattle.fields.proofs.Walking.{collect-on, collect-end}

-- ---- one step of the search
pub find_here : (k : ℕ) (s : List ℕ) (tag at : ℕ) → length s ≤ at + k → at < length s → byte_of s at ≡ tag → first_from k s tag at ≡ at
unfolding first_from
find_here zero s tag at h l e = absurd (omega arith)
find_here (suc k) s tag at h l e = simp (lt-ltb _ _ l, eq-eqb _ _ e)

pub find_on : (k : ℕ) (s : List ℕ) (tag at : ℕ) → at < length s → (byte_of s at ≡ tag → ⊥)
    → first_from (suc k) s tag at ≡ first_from k s tag (next_field_at s at)
unfolding first_from
find_on k s tag at l e = simp (lt-ltb _ _ l, ne_eqb _ _ e)

pub find_none : (k : ℕ) (s : List ℕ) (tag at : ℕ) → length s ≤ at → first_from k s tag at ≡ length s
unfolding first_from
find_none zero s tag at h = refl
find_none (suc k) s tag at h = simp (le-ltb _ _ h)

-- ---- what the walk from an offset on collects under a tag
-- no field has the tag, and its part stays; or a field has it, and there was no part before
data Under (s : List ℕ) (tag found : ℕ) (before after : Part) : Type 0 where
  stays : found ≡ length s → after ≡ before → Under s tag found before after
  comes : found < length s → byte_of s found ≡ tag → Good s found → before.at ≡ 0 → after ≡ part_of (found + 3) (length_at s found)
      → Under s tag found before after

-- the field at an offset has the tag, so no later field has it
first_comes : (s : List ℕ) (tag at later : ℕ) (before own after : Part) → at < length s → byte_of s at ≡ tag → Good s at → before.at ≡ 0
    → own ≡ part_of (at + 3) (length_at s at) → Under s tag later own after → Under s tag at before after
first_comes s tag at later before own after l e g unset is (stays found same) = comes l e g unset (same ∙ is)
first_comes s tag at later before own after l e g unset is (comes found named good again same) =
    let none : at + 3 ≡ 0 = ap (λ (p : Part). p.at) (sym is) ∙ again in absurd (omega arith)

-- a step of the walk: what it does at this field, and what it collects from the next field on
module _ (s : List ℕ) (tag k at : ℕ) (fields : Fields) (l : at < length s) (enough : length s ≤ at + suc k) where
  abbrev put : Fields
  put = put_of fields (byte_of s at) (at + 3) (length_at s at)

  abbrev Rest : Type 0
  Rest = Under s tag (first_from k s tag (next_field_at s at)) (part_for put tag) (part_for (collect_of k s put (next_field_at s at)) tag)

  abbrev Here : Type 0
  Here = Under s tag (first_from (suc k) s tag at) (part_for fields tag) (part_for (collect_of (suc k) s fields at) tag)

  has-tag : byte_of s at ≡ tag → Good s at → has_in fields (byte_of s at) ≡ false → length fields.parts ≡ length tags → Rest → Here
  has-tag e g new size rest =
      let row = good_row s at g in
      let unset = ltb-false 0 (part_for fields (byte_of s at)).at new in
      let is = get_or-set_same fields.parts (byte_of s at) (part_of (at + 3) (length_at s at)) no_part (omega arith) in
      rw (find_here (suc k) s tag at enough l e, collect-on s at k fields l)
      (first_comes s tag at _ (part_for fields tag) (part_for put tag) _ l e g (rw (← e) (omega arith)) (rw (← e) is) rest)

  has_other : (byte_of s at ≡ tag → ⊥) → Rest → Here
  has_other differ rest =
      let own = part_of (at + 3) (length_at s at) in
      let other = get_or-set_other fields.parts (byte_of s at) tag own no_part (λ e. differ (sym e)) in
      rw (find_on k s tag at l differ, collect-on s at k fields l) (rw other at rest)

under : (k : ℕ) (s : List ℕ) (tag at : ℕ) (fields : Fields) → length s ≤ at + k → length fields.parts ≡ length tags
    → (walk_of k s (seen_in fields.parts) at).number ≡ 0
    → Under s tag (first_from k s tag at) (part_for fields tag) (part_for (collect_of k s fields at) tag)
under zero s tag at fields enough size e =
    rw (find_none zero s tag at (omega arith), collect-end s at zero fields (omega arith)) (stays refl refl)
under (suc k) s tag at fields enough size e =
    cases (ltb at (length s))
    (λ h. let l = ltb-true at (length s) h in
    let w = walk_good k s (seen_in fields.parts) at l e in
    let f = fault_none s (seen_in fields.parts) at w.0 in
    let own = byte_of s at in
    let its = part_of (at + 3) (length_at s at) in
    let rest : Rest s tag k at fields l enough =
    under k s tag (next_field_at s at) (put_of fields own (at + 3) (length_at s at)) (omega arith)
    (length-set fields.parts own its ∙ size) (rw (seen_set fields.parts own its (omega arith)) w.1) in
    cases (eqb own tag)
    (λ t. has-tag s tag k at fields l enough (eqb-true own tag t) f.0 (seen_collected fields own ∙ f.1) size rest)
    (λ t. has_other s tag k at fields l enough (eqb-false own tag t) rest))
    (λ h. let end = ltb-false at (length s) h in
    rw (find_none (suc k) s tag at end, collect-end s at (suc k) fields end) (stays refl refl))

-- ---- for an order whose form is right
none_at : (tag : ℕ) → part_for no_fields tag ≡ no_part
none_at tag =
    cases (ltb tag (length tags)) (λ e. get_or-replicate (length tags) tag no_part no_part (ltb-true tag (length tags) e))
    (λ e. List·getD-eq-default no_fields.parts no_part (ltb-false tag (length tags) e))

-- the value of a field that is not cut has the length that the field gives
pub whole_length : (s : List ℕ) (at : ℕ) → next_field_at s at ≤ length s → length (take (length_at s at) (drop (at + 3) s)) ≡ length_at s at
whole_length s at h = length-take (length_at s at) (drop (at + 3) s) ∙ omega (arith, length-drop (at + 3) s)

module _ (s : List ℕ) (tag : ℕ) where
  first_field : Under s tag (offset_of s tag) (part_for no_fields tag) (part_for (fields_of s) tag) → FirstField s tag
  unfolding values_in
  first_field (stays none same) =
      let at_tag = offset_of s tag in
      let own = same ∙ none_at tag in
      let end : length s ≤ at_tag + 3 = omega arith in
      record {
        has = rw own (sym (le-ltb at_tag (length s) (omega arith)));
        value = rw own (sym (simp (drop_of_length-le s end, take-nil)));
        begins = λ h. let z : ltb 0 0 ≡ true = rw own at h in cc;
        long = rw own refl;
      }
  first_field (comes inside named good unset same) =
      let at_tag = offset_of s tag in
      record {
        has = rw same (lt-ltb 0 (at_tag + 3) (omega arith) ∙ sym (lt-ltb at_tag (length s) inside));
        value = rw same refl;
        begins = λ h. ap (λ (p : Part). p.at) same;
        long = rw same (sym (whole_length s at_tag good.whole));
      }

  good-field : offset_of s tag < length s → Under s tag (offset_of s tag) (part_for no_fields tag) (part_for (fields_of s) tag)
      → Good s (offset_of s tag) × (byte_of s (offset_of s tag) ≡ tag)
  good-field l (stays none same) = absurd (omega arith)
  good-field l (comes inside named good unset same) = (good, named)

  module _ (e : (check_of s).number ≡ 0) where
    collected : Under s tag (offset_of s tag) (part_for no_fields tag) (part_for (fields_of s) tag)
    unfolding offset_of fields_of
    collected = under (length s) s tag 0 no_fields (omega arith) refl (check_none s e).walk

    pub first : FirstField s tag
    first = first_field collected

    pub has-good : has_of s tag ≡ true → Good s (offset_of s tag) × (byte_of s (offset_of s tag) ≡ tag)
    has-good h = good-field (ltb-true (offset_of s tag) (length s) (sym first.has ∙ h)) collected

    -- its value has a length that its tag allows
    pub value-fits : has_of s tag ≡ true → length_fits tag (length (value_of s tag)) ≡ true
    value-fits h =
        let g = has-good h in
        let n : length (value_of s tag) ≡ length_at s (offset_of s tag) =
        ap (length {A = ℕ}) first.value ∙ whole_length s (offset_of s tag) g.0.whole in
        rw n (ap (λ (t : ℕ). length_fits t (length_at s (offset_of s tag))) (sym g.1) ∙ g.0.fits)

    -- and a tag that is missing has no bytes
    pub value-missing : has_of s tag ≡ false → value_of s tag ≡ []
    value-missing h =
        let l : length s ≤ offset_of s tag = ltb-false (offset_of s tag) (length s) (sym first.has ∙ h) in
        let m : length s ≤ offset_of s tag + 3 = omega arith in
        first.value ∙ simp (drop_of_length-le s m, take-nil)

pub first_field_is_collected : FirstFieldIsCollected
first_field_is_collected s e tag = first s tag e
