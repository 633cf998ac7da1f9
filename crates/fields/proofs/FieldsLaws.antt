-- The table's limits, and what is known of a field that is not refused. Assumes nothing.
use Rattle.prelude.proofs.Logic.{◌≡◌, refl, Bool, true, false, cond, not, ◌&&◌, and-eq-true_iff, List, [], ◌∷◌, ℕ, zero, suc, ◌≤◌, ◌<◌}
use Rattle.prelude.proofs.Logic.{◌-◌, arith, ltb, leb, eqb, lit≤, length, get_or, set, replicate, lt-ltb, ltb-false}
use Rattle.prelude.proofs.Logic.{leb-true, eqb-true, eqb-false, not-false, cases, either, both}
use Rattle.refusals.specs.declared.Refusal.{Refusal}
use Rattle.fields.specs.Numbers.{byte_of}
use Rattle.fields.specs.Tags.{tags, last_tag, column, known_tag, length_fits}
use Rattle.fields.specs.Fields.{length_at, next_field_at, fault_in, fault_of, walk_of, check_of}

-- ---- the table's limits
pub known_last : (tag : ℕ) → known_tag tag ≡ true → tag ≤ last_tag
known_last tag e = leb-true tag last_tag ((and-eq-true_iff (leb 1 tag) (leb tag last_tag)).0 e).1

pub fits_between : (tag n : ℕ) → length_fits tag n ≡ true → (column tag 0 ≤ n) × (n ≤ column tag 1)
unfolding length_fits
fits_between tag n e =
    let limits = leb (column tag 0) n && leb n (column tag 1) in
    let h = (and-eq-true_iff (leb (column tag 0) n) (leb n (column tag 1))).0 ((and-eq-true_iff (leb tag last_tag) limits).0 e).1 in
    (leb-true (column tag 0) n h.0, leb-true n (column tag 1) h.1)

-- every number of the table fits a byte: a test that antt computes
all_small : List ℕ → Bool
all_small [] = true
all_small (n ∷ row) = leb n 255 && all_small row

rows_small : List (List ℕ) → Bool
rows_small [] = true
rows_small (row ∷ rows) = all_small row && rows_small rows

entry_small : (row : List ℕ) → all_small row ≡ true → (i : ℕ) → get_or row i 0 ≤ 255
unfolding all_small
entry_small [] e i = lit≤ tt
entry_small (n ∷ row) e zero = leb-true n 255 (both (leb n 255) (all_small row) e).0
entry_small (n ∷ row) e (suc i) = entry_small row (both (leb n 255) (all_small row) e).1 i

in_row : (rows : List (List ℕ)) → rows_small rows ≡ true → (tag i : ℕ) → get_or (get_or rows tag []) i 0 ≤ 255
unfolding rows_small
in_row [] e tag i = lit≤ tt
in_row (row ∷ rows) e zero i = entry_small row (both (all_small row) (rows_small rows) e).0 i
in_row (row ∷ rows) e (suc tag) i = in_row rows (both (all_small row) (rows_small rows) e).1 tag i

pub column_small : (tag i : ℕ) → column tag i ≤ 255
unfolding rows_small all_small
column_small = in_row tags refl

pub length_short : (tag n : ℕ) → length_fits tag n ≡ true → n ≤ 255
length_short tag n e = let f = fits_between tag n e in let l = column_small tag 1 in omega (arith, f.1, l)

-- ---- a field that is not refused: its form is right, and no field before it has its tag
pub record Good (s : List ℕ) (at : ℕ) : Type 0 where
  pub known : known_tag (byte_of s at) ≡ true
  pub fits : length_fits (byte_of s at) (length_at s at) ≡ true
  pub whole : next_field_at s at ≤ length s

-- if a chain of checks refuses nothing, its first check is passed, and the rest refuses nothing
pub passed : (b : Bool) (x y : ℕ) → 1 ≤ x → cond b x y ≡ 0 → (b ≡ false) × (y ≡ 0)
passed true x y l e = absurd (omega arith)
passed false x y l e = (refl, e)

pub fault_cut : (s : List ℕ) (seen : List Bool) (at : ℕ) → length s - at < 3 → 1 ≡ fault_of s seen at
unfolding fault_of fault_in
fault_cut s seen at h = rw (lt-ltb _ _ h) refl

pub fault_none : (s : List ℕ) (seen : List Bool) (at : ℕ) → fault_of s seen at ≡ 0 → Good s at × (get_or seen (byte_of s at) false ≡ false)
unfolding fault_of fault_in
fault_none s seen at e =
    let tag = byte_of s at in
    let header = passed (ltb (length s - at) 3) 1 _ (lit≤ tt) e in
    let known = passed (not (known_tag tag)) 2 _ (lit≤ tt) header.1 in
    let new = passed (get_or seen tag false) 3 _ (lit≤ tt) known.1 in
    let fits = passed (not (length_fits tag (length_at s at))) 2 _ (lit≤ tt) new.1 in
    let value = passed (ltb (length s - at - 3) (length_at s at)) 1 0 (lit≤ tt) fits.1 in
    let three = ltb-false (length s - at) 3 header.0 in
    let rest = ltb-false (length s - at - 3) (length_at s at) value.0 in
    (record { known = not-false _ known.0; fits = not-false _ fits.0; whole = omega arith }, new.0)

-- its tag has a row, and its length fits a byte
pub good_row : (s : List ℕ) (at : ℕ) → Good s at → byte_of s at < length tags
good_row s at g = let h = known_last (byte_of s at) g.known in omega arith

pub good_short : (s : List ℕ) (at : ℕ) → Good s at → length_at s at ≤ 255
good_short s at g = length_short (byte_of s at) (length_at s at) g.fits

-- a walk that refuses nothing does not refuse its first field, nor any after it
pub walk_good : (k : ℕ) (s : List ℕ) (seen : List Bool) (at : ℕ) → at < length s → (walk_of (suc k) s seen at).number ≡ 0
    → (fault_of s seen at ≡ 0) × ((walk_of k s (set seen (byte_of s at) true) (next_field_at s at)).number ≡ 0)
unfolding walk_of
walk_good k s seen at l e =
    cases (eqb (fault_of s seen at) 0) (λ h. (eqb-true (fault_of s seen at) 0 h, simp (lt-ltb at (length s) l, h) at e))
    (λ h. absurd (eqb-false (fault_of s seen at) 0 h (simp (lt-ltb at (length s) l, h) at e)))

-- ---- an order that is not refused: it is short, and its walk refuses nothing
pub record Sound (s : List ℕ) : Type 0 where
  pub short : length s ≤ 1024
  pub walk : (walk_of (length s) s (replicate (length tags) false) 0).number ≡ 0

pub check_none : (s : List ℕ) → (check_of s).number ≡ 0 → Sound s
unfolding check_of
check_none s e =
    cases (ltb 1024 (length s)) (λ h. let z = simp h at e in absurd (omega arith))
    (λ h. record { short = ltb-false 1024 (length s) h; walk = simp h at e })

-- ---- the form of the fields gives no number above 3
fault_small : (s : List ℕ) (seen : List Bool) (at : ℕ) → fault_of s seen at ≤ 3
unfolding fault_of fault_in
fault_small s seen at =
    either (λ n. n ≤ 3) (ltb (length s - at) 3) (lit≤ tt)
    (either (λ n. n ≤ 3) (not (known_tag (byte_of s at))) (lit≤ tt)
    (either (λ n. n ≤ 3) (get_or seen (byte_of s at) false) (lit≤ tt)
    (either (λ n. n ≤ 3) (not (length_fits (byte_of s at) (length_at s at))) (lit≤ tt)
    (either (λ n. n ≤ 3) (ltb (length s - at - 3) (length_at s at)) (lit≤ tt) (lit≤ tt)))))

walk_small : (k : ℕ) (s : List ℕ) (seen : List Bool) (at : ℕ) → (walk_of k s seen at).number ≤ 3
unfolding walk_of
walk_small zero s seen at = lit≤ tt
walk_small (suc k) s seen at =
    either (λ (r : Refusal). r.number ≤ 3) (ltb at (length s))
    (either (λ (r : Refusal). r.number ≤ 3) (eqb (fault_of s seen at) 0)
    (walk_small k s (set seen (byte_of s at) true) (next_field_at s at)) (fault_small s seen at)) (lit≤ tt)

pub check_small : (s : List ℕ) → (check_of s).number ≤ 3
unfolding check_of
check_small s =
    either (λ (r : Refusal). r.number ≤ 3) (ltb 1024 (length s)) (lit≤ tt) (walk_small (length s) s (replicate (length tags) false) 0)
