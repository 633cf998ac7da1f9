-- Where each field is in joined fields, and that their form is right if their tags rise. Assumes nothing.
use Rattle.prelude.proofs.Logic.{◌≡◌, refl, sym, ap, ◌∙◌, Bool, true, false, cond, ◌&&◌, List, [], ◌∷◌, ◌++◌, ℕ, zero, suc, ◌+◌, ◌-◌, ◌*◌}
use Rattle.prelude.proofs.Logic.{◌/◌, ◌%◌, ◌≤◌, ◌<◌, div-add-mod', arith, leb, ltb, eqb, length, get_or, take, drop, set, replicate}
use Rattle.prelude.proofs.Logic.{get_or-replicate, length-append, length-drop, drop-drop, drop_at, drop_of_length-le, take-nil, take_at}
use Rattle.prelude.proofs.Logic.{get_or-set_other, lt-ltb, le-ltb, le-leb, leb-true, eqb-true, eqb-false, ltb-true, ltb-false}
use Rattle.prelude.proofs.Logic.{List·getD-eq-default, cases, both, lit≤}
use lib.Seq.{get_or-drop}
use Rattle.order_numbers.proofs.Reader.{no_refusal, byte_of, unsigned_of, tags, last_tag, length_fits, length_at, next_field_at, fault_in}
use Rattle.order_numbers.proofs.Reader.{walk_of, check_of, has_of, value_of, Values, values_of, Part, first_from, offset_of, find_here}
use Rattle.order_numbers.proofs.Reader.{find_on, find_none, first}
use Rattle.fields.proofs.Walking.{walk-on, walk_end}
use Rattle.fields.proofs.Collecting.{fault_is, check_walk}
use Rattle.order_numbers.specs.Bytes.{field_bytes, joined}

-- whether the fields have a tag, and its value
unfoldable pub stands_in : List (ℕ × List ℕ) → ℕ → Bool
stands_in [] tag = false
stands_in (f ∷ rest) tag = cond (eqb f.0 tag) true (stands_in rest tag)

unfoldable pub value_in : List (ℕ × List ℕ) → ℕ → List ℕ
value_in [] tag = []
value_in (f ∷ rest) tag = cond (eqb f.0 tag) f.1 (value_in rest tag)

-- the tags rise from one on, and each value has a length that its tag allows
unfoldable pub rising : ℕ → List (ℕ × List ℕ) → Bool
rising low [] = true
rising low (f ∷ rest) = leb low f.0 && (length_fits f.0 (length f.1) && rising (f.0 + 1) rest)

-- ---- a field at an offset
pub record Here (s : List ℕ) (at tag : ℕ) (v rest : List ℕ) : Type 0 where
  pub named : byte_of s at ≡ tag
  pub size : length_at s at ≡ length v
  pub value : take (length_at s at) (drop (at + 3) s) ≡ v
  pub next : drop (next_field_at s at) s ≡ rest
  pub inside : length s - at ≡ 3 + length v + length rest

here : (s : List ℕ) (at tag : ℕ) (v rest : List ℕ) → drop at s ≡ field_bytes tag v ++ rest → Here s at tag v rest
unfolding length_at unsigned_of field_bytes
here s at tag v rest e =
    let byte : (i : ℕ) → get_or s (at + i) 0 ≡ get_or (tag ∷ length v / 256 ∷ length v % 256 ∷ (v ++ rest)) i 0 =
    λ i. sym (get_or-drop at s i 0) ∙ ap (λ (l : List ℕ). get_or l i 0) e in
    let zero_is : at + 0 ≡ at = omega arith in
    let two_is : at + 1 + 1 ≡ at + 2 = omega arith in
    let one = byte 1 in
    let two = byte 2 in
    let size : get_or s (at + 1) 0 * 256 + get_or s (at + 1 + 1) 0 ≡ length v = rw (two_is, one, two) (div-add-mod' (length v) 256) in
    let behind : drop (at + 3) s ≡ v ++ rest = sym (drop-drop 3 at s) ∙ ap (drop 3) e in
    let l = length-drop at s in
    let a = ap (length {A = ℕ}) e in
    let b = length-append v rest in
    record {
      named = ap (λ (i : ℕ). get_or s i 0) (sym zero_is) ∙ byte 0;
      size = size;
      value = rw (size, behind) (take_at v rest (length v) refl);
      next = rw size (sym (drop-drop (length v) (at + 3) s) ∙ ap (drop (length v)) behind ∙ drop_at v rest (length v) refl);
      inside = omega arith;
    }

-- ---- a tag is found if and only if the fields have it
record Finding (s : List ℕ) (tag at : ℕ) (fs : List (ℕ × List ℕ)) : Type 0 where
  has : ltb at (length s) ≡ stands_in fs tag
  value : take (length_at s at) (drop (at + 3) s) ≡ value_in fs tag

finding : (fs : List (ℕ × List ℕ)) (k : ℕ) (s : List ℕ) (tag at : ℕ) → drop at s ≡ joined fs → length s ≤ at + k
    → Finding s tag (first_from k s tag at) fs
unfolding joined stands_in value_in
finding [] k s tag at e h =
    let l = length-drop at s in
    let a = ap (length {A = ℕ}) e in
    let end : length s ≤ length s + 3 = omega arith in
    rw (find_none k s tag at (omega arith))
    (record { has = le-ltb (length s) (length s) (omega arith); value = simp (drop_of_length-le s end, take-nil) })
finding (f ∷ rest) zero s tag at e h =
    let i = here s at f.0 f.1 (joined rest) e in absurd (omega (arith, i.inside))
finding (f ∷ rest) (suc k) s tag at e h =
    let i = here s at f.0 f.1 (joined rest) e in
    let inside : at < length s = omega (arith, i.inside) in
    cases (eqb f.0 tag)
    (λ t. rw (find_here (suc k) s tag at h inside (i.named ∙ eqb-true f.0 tag t))
    (record { has = lt-ltb at (length s) inside ∙ simp t; value = i.value ∙ simp t }))
    (λ t. let next = finding rest k s tag (next_field_at s at) i.next (omega arith) in
    rw (find_on k s tag at inside (λ q. eqb-false f.0 tag t (sym i.named ∙ q)))
    (record { has = next.has ∙ simp t; value = next.value ∙ simp t }))

module _ (fs : List (ℕ × List ℕ)) (right : (check_of (joined fs)).number ≡ 0) (tag : ℕ) where
  found : Finding (joined fs) tag (offset_of (joined fs) tag) fs
  unfolding offset_of
  found = finding fs (length (joined fs)) (joined fs) tag 0 refl (omega arith)

  has-joined : has_of (joined fs) tag ≡ stands_in fs tag
  has-joined = (first (joined fs) tag right).has ∙ found.has

  value-joined : value_of (joined fs) tag ≡ value_in fs tag
  value-joined = (first (joined fs) tag right).value ∙ found.value

-- so the joined bytes give by tag what the list of fields gives
abbrev pub said_in : List (ℕ × List ℕ) → (ℕ → Part) → Values
said_in fs part = record { has = stands_in fs; value = value_in fs; part = part }

pub values_joined : (fs : List (ℕ × List ℕ)) → (check_of (joined fs)).number ≡ 0
    → values_of (joined fs) ≡ said_in fs (values_of (joined fs)).part
values_joined fs right =
    λ i. record { has = λ tag. has-joined fs right tag i; value = λ tag. value-joined fs right tag i; part = (values_of (joined fs)).part }

-- the first field is the first of its tag
pub first_offset : (tag : ℕ) (v : List ℕ) (rest : List (ℕ × List ℕ)) → offset_of (joined ((tag, v) ∷ rest)) tag ≡ 0
unfolding offset_of joined
first_offset tag v rest =
    let s = joined ((tag, v) ∷ rest) in
    let i = here s 0 tag v (joined rest) refl in
    find_here (length s) s tag 0 (omega arith) (omega (arith, i.inside)) i.named

-- ---- nothing refuses fields whose tags rise
no_fault : (tag n left : ℕ) → 1 ≤ tag → length_fits tag n ≡ true → 3 + n ≤ left → fault_in tag n false left ≡ 0
unfolding fault_in length_fits
no_fault tag n left low fits room =
    let known = (both (leb tag last_tag) _ fits).0 in
    simp (le-ltb left 3 (omega arith), le-leb 1 tag low, known, (both (leb tag last_tag) _ fits).1, le-ltb (left - 3) n (omega arith))

running : (fs : List (ℕ × List ℕ)) (k : ℕ) (s : List ℕ) (at : ℕ) (seen : List Bool) (low : ℕ) → length s ≤ at + k → drop at s ≡ joined fs
    → 1 ≤ low → rising low fs ≡ true → ((tag : ℕ) → low ≤ tag → get_or seen tag false ≡ false) → walk_of k s seen at ≡ no_refusal
unfolding joined rising
running [] k s at seen low h e one r new =
    let l = length-drop at s in
    let a = ap (length {A = ℕ}) e in
    walk_end s at k seen (omega arith)
running (f ∷ rest) zero s at seen low h e one r new =
    let i = here s at f.0 f.1 (joined rest) e in absurd (omega (arith, i.inside))
running (f ∷ rest) (suc k) s at seen low h e one r new =
    let i = here s at f.0 f.1 (joined rest) e in
    let rises = both (leb low f.0) _ r in
    let fits = both (length_fits f.0 (length f.1)) _ rises.1 in
    let over = leb-true low f.0 rises.0 in
    let inside : at < length s = omega (arith, i.inside) in
    let other : (t : ℕ) → f.0 + 1 ≤ t → t ≡ byte_of s at → ⊥ = λ t l q. let n = i.named in omega arith in
    let none = no_fault f.0 (length f.1) (length s - at) (omega arith) fits.0 (omega (arith, i.inside)) in
    let fault =
    sym (fault_is s at seen f.0 (length f.1) false (sym i.named) (sym i.size) (sym (new f.0 over))) ∙ none in
    walk-on s at k seen inside fault
    ∙ running rest k s (next_field_at s at) (set seen (byte_of s at) true) (f.0 + 1) (omega arith) i.next (omega arith) fits.1
    (λ t l. get_or-set_other seen (byte_of s at) t true false (other t l) ∙ new t (omega arith))

pub form_right : (fs : List (ℕ × List ℕ)) → length (joined fs) ≤ 1024 → rising 1 fs ≡ true → check_of (joined fs) ≡ no_refusal
form_right fs short r =
    check_walk (joined fs) short
    ∙ running fs (length (joined fs)) (joined fs) 0 (replicate (length tags) false) 1 (omega arith) refl (lit≤ tt) r none
  where
    none : (tag : ℕ) → 1 ≤ tag → get_or (replicate (length tags) false) tag false ≡ false
    none tag h =
        cases (ltb tag (length tags)) (λ e. get_or-replicate (length tags) tag false false (ltb-true tag (length tags) e))
        (λ e. List·getD-eq-default (replicate (length tags) false) false (ltb-false tag (length tags) e))
