-- Document 01, "The order": which bytes the form of the fields refuses, by which number and at which place. An order is a list of bytes.
-- "Fields: one-byte tag, two-byte length (high byte first), value."
use Rattle.std.specs.Prelude.{ℕ, zero, suc, ◌+◌, ◌-◌, List, Bool, true, false, cond, not, length, get_or, set, replicate, ltb, eqb}
use Rattle.refusals.specs.Refusals.{refusal, no_refusal, field_cut, field_unknown, field_again}
use Rattle.refusals.specs.declared.Refusal.{Refusal}
use Rattle.fields.specs.Numbers.{byte_of, unsigned_of}
use Rattle.fields.specs.Tags.{tags, known_tag, length_fits}

abbrev pub header_length : ℕ  -- the bytes before a value: its tag and its length
header_length = 3

-- the length of the value, as the field at an offset gives it
unfoldable pub length_at : List ℕ → ℕ → ℕ
length_at s at = unsigned_of s (at + 1)

-- where the field after the one at an offset begins
abbrev pub next_field_at : List ℕ → ℕ → ℕ
next_field_at s at = at + header_length + length_at s at

-- "field by field: header cut, unknown tag, tag again, wrong length, value cut": the number of a field's refusal, or 0. n is the length
-- that the field gives; `again` is true if a field before it has its tag; `left` bytes remain from its tag byte on
unfoldable pub fault_in : (tag n : ℕ) → (again : Bool) → (left : ℕ) → ℕ
fault_in tag n again left =
    cond (ltb left header_length) field_cut  -- header cut
    (cond (not (known_tag tag)) field_unknown  -- unknown tag
    (cond again field_again  -- tag again
    (cond (not (length_fits tag n)) field_unknown  -- wrong length
    (cond (ltb (left - header_length) n) field_cut 0))))  -- value cut

-- the same for the field at an offset; `seen` has by tag whether a field before it has the tag
unfoldable pub fault_of : List ℕ → (seen : List Bool) → ℕ → ℕ
fault_of s seen at =
    let tag = byte_of s at in
    fault_in tag (length_at s at) (get_or seen tag false) (length s - at)

-- Request 5: "A plain reader, which checks in one pass and collects in another, is kept beside it as its definition". This pass checks: the
-- first field that is refused, from an offset on. "Offsets are those of a field's tag byte." k counts the fields that may follow: an order
-- has at most as many fields as bytes.
unfoldable pub walk_of : (k : ℕ) → List ℕ → (seen : List Bool) → (at : ℕ) → Refusal
walk_of zero s seen at = no_refusal
walk_of (suc k) s seen at =
    cond (ltb at (length s))
    (cond (eqb (fault_of s seen at) 0) (walk_of k s (set seen (byte_of s at) true) (next_field_at s at)) (refusal (fault_of s seen at) at))
    no_refusal

abbrev pub longest_order : ℕ
longest_order = 1024

-- "Order of checks: length over 1,024; then field by field"; 1 is "over 1,024 bytes, or a field cut", 2 "unknown tag, wrong length",
-- 3 "tag a second time", each with "its offset, or 0". Number and place are 0 if nothing is refused.
unfoldable pub check_of : List ℕ → Refusal
check_of s = cond (ltb longest_order (length s)) (refusal field_cut 0) (walk_of (length s) s (replicate (length tags) false) 0)
