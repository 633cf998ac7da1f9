-- Look-up by tag, which says in another way what is collected. No definition uses it.
use Rattle.std.specs.Prelude.{ℕ, zero, suc, ◌+◌, ◌≡◌, true, cond, List, length, take, drop, ltb, eqb}
use Rattle.fields.specs.Numbers.{byte_of}
use Rattle.fields.specs.Fields.{header_length, length_at, next_field_at, check_of}
use Rattle.fields.specs.Values.{values_of, has_of, value_of}

-- the offset of the first field with the tag, from the offset `at` on; the order's length if there is none
unfoldable pub first_from : (k : ℕ) → List ℕ → (tag at : ℕ) → ℕ
first_from zero s tag at = length s
first_from (suc k) s tag at = cond (ltb at (length s)) (cond (eqb (byte_of s at) tag) at (first_from k s tag (next_field_at s at))) (length s)

unfoldable pub offset_of : List ℕ → ℕ → ℕ
offset_of s tag = first_from (length s) s tag 0

-- an order has a tag if it has a field with that tag, and the tag's part is the whole value of the first one
pub record FirstField (s : List ℕ) (tag : ℕ) : Type 0 where
  pub has : has_of s tag ≡ ltb (offset_of s tag) (length s)
  pub value : value_of s tag ≡ take (length_at s (offset_of s tag)) (drop (offset_of s tag + header_length) s)
  pub begins : has_of s tag ≡ true → ((values_of s).part tag).at ≡ offset_of s tag + header_length
  pub long : ((values_of s).part tag).length ≡ length (value_of s tag)

abbrev pub FirstFieldIsCollected : Type 0
FirstFieldIsCollected = (s : List ℕ) → (check_of s).number ≡ 0 → (tag : ℕ) → FirstField s tag
