-- Request 5's second pass, which collects, and what it gives by tag: document 01's column "missing" and its "that part of the order
-- itself". If an order's form is right, a tag's part is the value of its first field, which is its only one (Lookup.antt).
use Rattle.std.specs.Prelude.{ℕ, zero, suc, ◌+◌, List, Bool, cond, length, take, drop, get_or, set, replicate, ltb, Result, Option, Some, None}
use Rattle.fields.specs.declared.values.Fields.{Fields}
use Rattle.fields.specs.declared.values.Given.{Given}
use Rattle.fields.specs.declared.values.Part.{Part}
use Rattle.fields.specs.Fields.{header_length, length_at, next_field_at, check_of}
use Rattle.fields.specs.Numbers.{byte_of}
use Rattle.fields.specs.Tags.{tags}
use Rattle.refusals.specs.Refusals.{unless_refused}
use Rattle.refusals.specs.declared.Refusal.{Refusal}

-- where a value begins and how long it is
abbrev pub part_of : (at length : ℕ) → Part
part_of at length = record { at = at; length = length }

-- both are 0 if there is none
abbrev pub no_part : Part
no_part = part_of 0 0

abbrev pub no_fields : Fields
no_fields = record { parts = replicate (length tags) no_part }

abbrev pub put_of : Fields → (tag at length : ℕ) → Fields
put_of fields tag at length = record { parts = set fields.parts tag (part_of at length) }

-- each field's value under its tag, from an offset on
unfoldable pub collect_of : (k : ℕ) → List ℕ → Fields → (at : ℕ) → Fields
collect_of zero s fields at = fields
collect_of (suc k) s fields at =
    cond (ltb at (length s))
    (collect_of k s (put_of fields (byte_of s at) (at + header_length) (length_at s at)) (next_field_at s at)) fields

unfoldable pub fields_of : List ℕ → Fields
fields_of s = collect_of (length s) s no_fields 0

-- the refusal of the fields' form, or the fields if nothing is refused
unfoldable pub checked_of : List ℕ → Result Fields Refusal
checked_of s = unless_refused (check_of s) (fields_of s)

-- ---- by tag
abbrev pub part_for : Fields → ℕ → Part
part_for fields tag = get_or fields.parts tag no_part

-- no value begins at 0, because its header is before it
abbrev pub has_in : Fields → ℕ → Bool
has_in fields tag = ltb 0 (part_for fields tag).at

-- the bytes of a part
abbrev pub part_in : List ℕ → Part → List ℕ
part_in s part = take part.length (drop part.at s)

-- what an order gives, by tag: all that reading it uses once its fields are checked
pub record Values : Type 0 where
  pub has : ℕ → Bool
  pub value : ℕ → List ℕ
  pub part : ℕ → Part

unfoldable pub values_in : List ℕ → Fields → Values
values_in s fields = record { has = has_in fields; value = λ tag. part_in s (part_for fields tag); part = part_for fields }

-- the value of a tag, if it is there
abbrev pub get_in : Values → ℕ → Option (List ℕ)
get_in v tag = cond (v.has tag) (Some (v.value tag)) None

abbrev pub given_by : Given → Values
given_by given = values_in given.order.now given.fields.now

abbrev pub values_of : List ℕ → Values
values_of s = values_in s (fields_of s)

abbrev pub has_of : List ℕ → ℕ → Bool
has_of s = (values_of s).has

abbrev pub value_of : List ℕ → ℕ → List ℕ
value_of s = (values_of s).value
