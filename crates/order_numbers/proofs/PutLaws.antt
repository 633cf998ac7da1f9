-- A field that is put at an offset follows the bytes before it. Assumes nothing.
use Rattle.prelude.proofs.Logic.{◌≡◌, refl, sym, ap, ◌∙◌, List, [], ◌∷◌, ◌++◌, append_assoc, append-nil, ℕ, ◌+◌, ◌≤◌, arith, leb, lit≤}
use Rattle.prelude.proofs.Logic.{arms, length, take, drop, length-append, take_at, length-take-le, le-leb, ℤ, w32, w64, SFits, to_z, of_z}
use Rattle.prelude.proofs.Logic.{to_z-of_z, min, min-eq_left, min-eq_right, le_of_lt, leb-true, leb-false, take_all, cases}
use Rattle.integers.proofs.Integers.{P, N, read_wide}
use Rattle.text.specs.Text.{put_of}
use Rattle.text.proofs.TextLaws.{put_behind}
use Rattle.order_numbers.specs.Bytes.{two_bytes, field_bytes, joined, signed_bytes}
use Rattle.order_numbers.specs.Values.{rows_bytes}

pub taken_put : (buffer text : List ℕ) (at : ℕ) → at + length text ≤ length buffer
    → take (at + length text) (put_of buffer at text) ≡ take at buffer ++ text
unfolding put_of
taken_put buffer text at room =
    let front = length-append (take at buffer) text ∙ ap (λ (k : ℕ). k + length text) (length-take-le at buffer (omega arith)) in
    rw (le-leb (at + length text) (length buffer) room)
    (take_at (take at buffer ++ text) (drop (at + length text) buffer) (at + length text) front)

-- a town that is cut at its end or behind its 41st byte
pub take_cut : (s : List ℕ) → take (min (length s) 41) s ≡ take 41 s
take_cut s =
    cases (leb (length s) 41)
    (λ e. let h : length s ≤ 41 = leb-true (length s) 41 e in
    ap (λ (k : ℕ). take k s) (min-eq_left h) ∙ take_all (length s) s (omega arith) ∙ sym (take_all 41 s h))
    (λ e. ap (λ (k : ℕ). take k s) (min-eq_right (le_of_lt (leb-false (length s) 41 e))))

-- a header of three bytes and the value behind it are a field
pub field_taken : (buffer one two : List ℕ) (at tag : ℕ) (header v : List ℕ) → header ++ v ≡ field_bytes tag v → length header ≡ 3
    → one ≡ put_of buffer at header → two ≡ put_of one (at + 3) v → at + 3 + length v ≤ length buffer
    → take (at + 3 + length v) two ≡ take at buffer ++ field_bytes tag v
field_taken buffer one two at tag header v whole three a b room =
    let k : at + 3 ≡ at + length header = omega arith in
    let size = length-append header v in
    let both : at + 3 + length v ≡ at + length (header ++ v) = omega arith in
    let put : two ≡ put_of buffer at (header ++ v) = rw (b, a, k) (put_behind buffer header v at (omega arith)) in
    rw (both, put, ← whole) (taken_put buffer (header ++ v) at (omega arith))

-- an i32 that is passed on as an i64 keeps its parts
pub parts_kept : (f : ℕ → ℕ → ℕ) (z : ℤ) → SFits w32 z → (above below : ℕ) → above ≡ P (to_z w64 (of_z w64 (to_z w32 (of_z w32 z))))
    → below ≡ N (to_z w64 (of_z w64 (to_z w32 (of_z w32 z)))) → f above below ≡ f (P z) (N z)
parts_kept f z h above below a b =
    let e = read_wide z h in
    ap (λ (n : ℕ). f n below) (a ∙ ap P e) ∙ ap (f (P z)) (b ∙ ap N e)

-- an i32 of a struct is passed on as it is read back from its bits
pub bytes_told : (z : ℤ) (v : List ℕ) → SFits w32 z → v ≡ signed_bytes (to_z w32 (of_z w32 z)) → v ≡ signed_bytes z
bytes_told z v f e = e ∙ ap signed_bytes (to_z-of_z f)

-- ---- fields behind fields
pub joined_append : (a b : List (ℕ × List ℕ)) → joined (a ++ b) ≡ joined a ++ joined b
unfolding joined
joined_append [] b = refl
joined_append (f ∷ a) b =
    ap (λ (l : List ℕ). field_bytes f.0 f.1 ++ l) (joined_append a b)
    ∙ sym (append_assoc (field_bytes f.0 f.1) (joined a) (joined b))

-- fields that are put behind what is there, one by one and in groups
abbrev behind : List ℕ → List (ℕ × List ℕ) → List ℕ
behind base [] = base
behind base (f ∷ fs) = behind (base ++ field_bytes f.0 f.1) fs

pub laid : (base : List ℕ) (fs : List (ℕ × List ℕ)) → behind base fs ≡ base ++ joined fs
unfolding joined
laid base [] = sym (append-nil base)
laid base (f ∷ fs) = laid (base ++ field_bytes f.0 f.1) fs ∙ append_assoc base (field_bytes f.0 f.1) (joined fs)

pub groups : (a b c d e : List (ℕ × List ℕ)) → joined a ++ joined b ++ joined c ++ joined d ++ joined e ≡ joined (a ++ b ++ c ++ d ++ e)
groups a b c d e = simp joined_append

pub rows_long : (n : ℕ) → (1 ≤ length (rows_bytes n)) × (length (rows_bytes n) ≤ 2)
unfolding rows_bytes two_bytes
rows_long n = arms (λ (x : List ℕ). (1 ≤ length x) × (length x ≤ 2)) (leb n 250) (λ t. (lit≤ tt, lit≤ tt)) (λ t. (lit≤ tt, lit≤ tt))
