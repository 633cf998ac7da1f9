-- The invariants of the two readers: the rest of a walk, from here on, gives what the whole walk gives. The collected values tell which
-- tags were seen, so one walk is enough for both. Assumes nothing.
use Rattle.prelude.proofs.Logic.{◌≡◌, refl, sym, ap, ◌∙◌, Bool, true, false, List, [], ◌∷◌, ℕ, zero, suc, ◌≤◌, ◌<◌, ◌+◌, ◌-◌, arith, ltb}
use Rattle.prelude.proofs.Logic.{map, length, get_or, set, replicate, length-set, List·getD-map, lt-ltb, le-ltb, eq-eqb}
use Rattle.std.specs.Prelude.{Err, Ok, Result}
use Rattle.refusals.specs.Refusals.{refusal, no_refusal, unless_refused}
use Rattle.refusals.specs.declared.Refusal.{Refusal}
use Rattle.refusals.proofs.Refused.{refuses, refuses_not, was_refused, was_not}
use Rattle.fields.specs.declared.{values.Fields.Fields, values.Part.Part}
use Rattle.fields.specs.Numbers.{byte_of, unsigned_of}
use Rattle.fields.specs.Tags.{tags}
use Rattle.fields.specs.Fields.{length_at, next_field_at, fault_in, fault_of, walk_of, check_of}
use Rattle.fields.specs.Values.{part_of, no_part, no_fields, put_of, checked_of, collect_of, fields_of, values_in, part_for, has_in}
use Rattle.fields.proofs.FieldsLaws.{walk_good}
use Rattle.fields.proofs.Walking.{walk-stop, walk-on, walk_end, collect-on, collect-end}

abbrev pub none_seen : List Bool
none_seen = replicate (length tags) false

-- ---- the walk that checks
pub length_is : (s : List ℕ) (at n : ℕ) → n ≡ unsigned_of s (at + 1) → n ≡ length_at s at
unfolding length_at
length_is s at n e = e

-- the number of a field's refusal, from its parts, and what its check says of it
module _ (s : List ℕ) (at : ℕ) (seen : List Bool) (tag size : ℕ) (again : Bool) (is_tag : tag ≡ byte_of s at)
    (is_size : size ≡ length_at s at) (is_again : again ≡ get_or seen tag false) where
  abbrev its : Refusal
  its = refusal (fault_in tag size again (length s - at)) at

  pub fault_is : fault_in tag size again (length s - at) ≡ fault_of s seen at
  unfolding fault_of
  fault_is = rw (is_again, is_tag, is_size) refl

  abbrev pub check_says : Result (Unit {0}) Refusal
  check_says = unless_refused its tt

  pub field-passes : Ok tt ≡ check_says → fault_of s seen at ≡ 0
  field-passes h = sym fault_is ∙ (was_not its tt tt h).0

  pub field-refused : (r : Refusal) → Err r ≡ check_says → (r ≡ refusal (fault_of s seen at) at) × (fault_of s seen at ≡ 0 → ⊥)
  field-refused r h =
      let w = was_refused its tt r h in (w.0 ∙ ap (λ (n : ℕ). refusal n at) fault_is, λ z. w.1 (fault_is ∙ z))

pub record Checking (s : List ℕ) (at : ℕ) (seen : List Bool) : Type 0 where
  pub left : ℕ
  pub enough : length s ≤ at + left
  pub rest : walk_of left s seen at ≡ walk_of (length s) s none_seen 0
  pub size : length seen ≡ length tags

pub check_first : (s : List ℕ) → Checking s 0 none_seen
check_first s = record { left = length s; enough = omega arith; rest = refl; size = refl }

module _ (s : List ℕ) (at : ℕ) (seen : List Bool) (c : Checking s at seen) where
  pub checked-stop : at < length s → (fault_of s seen at ≡ 0 → ⊥) → refusal (fault_of s seen at) at ≡ walk_of (length s) s none_seen 0
  checked-stop l f = sym (walk-stop s at c.left seen c.enough l f) ∙ c.rest

  pub checked-end : length s ≤ at → no_refusal ≡ walk_of (length s) s none_seen 0
  checked-end h = sym (walk_end s at c.left seen h) ∙ c.rest

  pub checked-on : at < length s → fault_of s seen at ≡ 0 → Checking s (next_field_at s at) (set seen (byte_of s at) true)
  checked-on l f = go c.left c.enough c.rest
    where
      go : (k : ℕ) → length s ≤ at + k → walk_of k s seen at ≡ walk_of (length s) s none_seen 0
          → Checking s (next_field_at s at) (set seen (byte_of s at) true)
      go zero h r = absurd (omega arith)
      go (suc k) h r =
          record {
            left = k;
            enough = omega arith;
            rest = sym (walk-on s at k seen l f) ∙ r;
            size = length-set seen (byte_of s at) true ∙ c.size;
          }

-- ---- the walk that collects. A tag was seen if its collected value begins above 0
abbrev pub seen_in : List Part → List Bool
seen_in parts = map (λ (p : Part). ltb 0 p.at) parts

pub seen_set : (parts : List Part) (tag : ℕ) (x : Part) → 0 < x.at → seen_in (set parts tag x) ≡ set (seen_in parts) tag true
seen_set [] tag x h = refl
seen_set (y ∷ parts) zero x h = ap (λ (b : Bool). b ∷ seen_in parts) (lt-ltb 0 x.at h)
seen_set (y ∷ parts) (suc tag) x h = ap (λ (l : List Bool). ltb 0 y.at ∷ l) (seen_set parts tag x h)

pub seen_collected : (fields : Fields) (tag : ℕ) → has_in fields tag ≡ get_or (seen_in fields.parts) tag false
seen_collected fields tag = sym (List·getD-map (λ (p : Part). ltb 0 p.at) fields.parts tag no_part)

pub record Collecting (s : List ℕ) (at : ℕ) (fields : Fields) : Type 0 where
  pub left : ℕ
  pub enough : length s ≤ at + left
  pub rest : walk_of left s (seen_in fields.parts) at ≡ walk_of (length s) s none_seen 0
  pub gives : collect_of left s fields at ≡ fields_of s
  pub size : length fields.parts ≡ length tags

pub collect_first : (s : List ℕ) → Collecting s 0 no_fields
unfolding fields_of
collect_first s = record { left = length s; enough = omega arith; rest = refl; gives = refl; size = refl }

module _ (s : List ℕ) (at : ℕ) (fields : Fields) (c : Collecting s at fields) where
  pub refused-here : at < length s → (fault_of s (seen_in fields.parts) at ≡ 0 → ⊥)
      → walk_of (length s) s none_seen 0 ≡ refusal (fault_of s (seen_in fields.parts) at) at
  refused-here l f = sym c.rest ∙ walk-stop s at c.left (seen_in fields.parts) c.enough l f

  pub nothing-refused : length s ≤ at → walk_of (length s) s none_seen 0 ≡ no_refusal
  nothing-refused h = sym c.rest ∙ walk_end s at c.left (seen_in fields.parts) h

  -- if nothing refuses the order, nothing refuses the field here
  pub sound-here : (walk_of (length s) s none_seen 0).number ≡ 0 → at < length s → fault_of s (seen_in fields.parts) at ≡ 0
  sound-here e l = go c.left c.enough (ap (λ (r : Refusal). r.number) c.rest ∙ e)
    where
      go : (k : ℕ) → length s ≤ at + k → (walk_of k s (seen_in fields.parts) at).number ≡ 0 → fault_of s (seen_in fields.parts) at ≡ 0
      go zero h z = absurd (omega arith)
      go (suc k) h z = (walk_good k s (seen_in fields.parts) at l z).0

  pub collected-on : at < length s → fault_of s (seen_in fields.parts) at ≡ 0
      → Collecting s (next_field_at s at) (put_of fields (byte_of s at) (at + 3) (length_at s at))
  collected-on l f = go c.left c.enough c.rest c.gives
    where
      go : (k : ℕ) → length s ≤ at + k → walk_of k s (seen_in fields.parts) at ≡ walk_of (length s) s none_seen 0
          → collect_of k s fields at ≡ fields_of s
          → Collecting s (next_field_at s at) (put_of fields (byte_of s at) (at + 3) (length_at s at))
      go zero h r g = absurd (omega arith)
      go (suc k) h r g =
          let own = part_of (at + 3) (length_at s at) in
          record {
            left = k;
            enough = omega arith;
            rest = rw (seen_set fields.parts (byte_of s at) own (omega arith)) (sym (walk-on s at k (seen_in fields.parts) l f) ∙ r);
            gives = sym (collect-on s at k fields l) ∙ g;
            size = length-set fields.parts (byte_of s at) own ∙ c.size;
          }

  pub collected-all : length s ≤ at → fields ≡ fields_of s
  collected-all h = sym (collect-end s at c.left fields h) ∙ c.gives

-- ---- what checking and collecting give together
pub check_walk : (s : List ℕ) → length s ≤ 1024 → check_of s ≡ walk_of (length s) s none_seen 0
unfolding check_of
check_walk s h = simp (le-ltb 1024 (length s) h)

pub too_long : (s : List ℕ) → 1024 < length s → check_of s ≡ refusal 1 0
unfolding check_of
too_long s h = simp (lt-ltb 1024 (length s) h)

pub checked_not : (s : List ℕ) (n at : ℕ) → check_of s ≡ refusal n at → (n ≡ 0 → ⊥) → Err (refusal n at) ≡ checked_of s
unfolding checked_of
checked_not s n at e f = rw e (sym (refuses (refusal n at) (fields_of s) f))

pub checked_all : (s : List ℕ) (fields : Fields) → check_of s ≡ no_refusal → fields ≡ fields_of s → Ok fields ≡ checked_of s
unfolding checked_of
checked_all s fields e same = rw (e, same) (sym (refuses_not no_refusal (fields_of s) refl))

pub part_for_lem : (s : List ℕ) (fields : Fields) (tag : ℕ) → part_for fields tag ≡ (values_in s fields).part tag
unfolding values_in
part_for_lem s fields tag = refl

pub has_in_lem : (s : List ℕ) (fields : Fields) → has_in fields ≡ (values_in s fields).has
unfolding values_in
has_in_lem s fields = refl
