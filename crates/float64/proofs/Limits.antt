-- From tests against limits to a float's size, and back. Assumes nothing.
use Rattle.prelude.proofs.Logic.{◌≡◌, refl, sym, ap, ◌∙◌, Bool, true, false, ◌&&◌, ◌||◌, true≢false, false≢true, inl, inr, ℕ, ◌+◌}
use Rattle.prelude.proofs.Logic.{◌*◌, ◌≤◌, ◌<◌, mul-pos, le_of_mul-le-mul_right, le_of_lt, le_of_eq, eq-zero-or-pos, zero-mul, arith, T}
use Rattle.prelude.proofs.Logic.{ltb, eqb, eqb→eq, lit<, pos, ltb-true, ltb-false, eq-eqb, and_l}
use Rattle.prelude.proofs.Ieee.{Float, nan, inf, fin, binary64, up, down, round, neg, le, of_int, HasValue, round_whole, is_true, down_pos}
use Rattle.prelude.proofs.Ieee.{up_pos, transfer, le_of_values}
use Rattle.float64.specs.Ops.{dec}
use Rattle.float64.proofs.Values.{big}
use Rattle.float64.proofs.Within.{Within, le_sizes, under_value, round-signed}

holds : (b : Bool) → b ≡ true → T b
holds b h = rw h tt

-- ---- tests
ge_sizes : (a b : ℕ) (t : Bool) → T (ltb b a || (eqb a b && t)) → b ≤ a
ge_sizes a b t h = go (ltb b a) refl h
  where
    go : (u : Bool) → ltb b a ≡ u → T (u || (eqb a b && t)) → b ≤ a
    go true l h = le_of_lt (ltb-true b a l)
    go false l h = le_of_eq (sym (eqb→eq a b (and_l (eqb a b) t h)))

-- between a limit's opposite and the limit
pub within_limits : (x h : Float) (a c : ℕ) → 0 < c → HasValue h false a c → le (neg h) x ≡ true → le x h ≡ true → Within x a c
unfolding le neg
within_limits x nan a c p v i j = absurd v
within_limits x (inf t) a c p v i j = absurd v
within_limits x (fin true n d) a c p v i j = absurd (true≢false v.0)
within_limits nan (fin false n d) a c p v i j = absurd (false≢true j)
within_limits (inf true) (fin false n d) a c p v i j = absurd (false≢true i)
within_limits (inf false) (fin false n d) a c p v i j = absurd (false≢true j)
within_limits (fin true m e) (fin false n d) a c p v i j =
    transfer (m * up e) a (down e) c (m * up e) (n * up d) (down e) (down d) (down_pos e) (down_pos d) refl (sym v.1)
    (ge_sizes (n * up d * down e) (m * up e * down d) true (holds _ i))
within_limits (fin false m e) (fin false n d) a c p v i j =
    transfer (m * up e) a (down e) c (m * up e) (n * up d) (down e) (down d) (down_pos e) (down_pos d) refl (sym v.1)
    (le_sizes (m * up e * down d) (n * up d * down e) true (holds _ j))

-- from 0 to a / c; a zero may have either sign
abbrev pub FromZero : Float → ℕ → ℕ → Type 0
FromZero nan a c = ⊥
FromZero (inf s) a c = ⊥
FromZero (fin false m e) a c = m * up e * c ≤ a * down e
FromZero (fin true m e) a c = m ≡ 0

zero_is : dec 0 0 ≡ fin false 0 (pos 0)
unfolding dec round
zero_is = refl

from_fin : (x h : Float) (a c : ℕ) → 0 < c → HasValue h false a c → le (fin false 0 (pos 0)) x ≡ true → le x h ≡ true → FromZero x a c
unfolding le
from_fin nan h a c p v i j = absurd (false≢true j)
from_fin (inf true) h a c p v i j = absurd (false≢true i)
from_fin (inf false) nan a c p v i j = absurd v
from_fin (inf false) (inf t) a c p v i j = absurd v
from_fin (inf false) (fin t n d) a c p v i j = absurd (false≢true j)
from_fin (fin true m e) h a c p v i j =
    let g : 0 * 1 * down e ≡ m * up e * 1 =
    eqb→eq (0 * 1 * down e) (m * up e * 1) (and_l (eqb (0 * 1 * down e) (m * up e * 1)) _ (holds _ i)) in
    elim (eq-zero-or-pos m) [ inl z ↦ z | inr q ↦ let r = mul-pos q (up_pos e) in absurd (omega arith) ]
from_fin (fin false m e) h a c p v i j = under_value (fin false m e) h a c p refl v (holds _ j)

pub from_zero : (x h : Float) (a c : ℕ) → 0 < c → HasValue h false a c → le (dec 0 0) x ≡ true → le x h ≡ true → FromZero x a c
from_zero x h a c p v i j = from_fin x h a c p v (ap (λ (z : Float). le z x) (sym zero_is) ∙ i) j

-- from a size to the test
zero_under : (a b : ℕ) → a ≡ 0 → (ltb 0 (a + b) || (eqb a b && eqb a 0)) ≡ true
zero_under a b z = go (ltb 0 (a + b)) refl
  where
    go : (t : Bool) → ltb 0 (a + b) ≡ t → (t || (eqb a b && eqb a 0)) ≡ true
    go true l = refl
    go false l = let k = ltb-false 0 (a + b) l in rw (eq-eqb a b (omega arith), eq-eqb a 0 z)

to_fin : (x h : Float) (a c : ℕ) → 0 < c → HasValue h false a c → FromZero x a c → (le (fin false 0 (pos 0)) x ≡ true) × (le x h ≡ true)
unfolding le
to_fin nan h a c p v f = absurd f
to_fin (inf s) h a c p v f = absurd f
to_fin (fin true m e) nan a c p v f = absurd v
to_fin (fin true m e) (inf t) a c p v f = absurd v
to_fin (fin true m e) (fin true n d) a c p v f = absurd (true≢false v.0)
to_fin (fin true m e) (fin false n d) a c p v f =
    let z : m * up e ≡ 0 = ap (λ (i : ℕ). i * up e) f ∙ zero-mul (up e) in (
      rw (eq-eqb (0 * 1 * down e) (m * up e * 1) (omega arith), eq-eqb (0 * 1 * down e) 0 (omega arith)),
      zero_under (m * up e * down d) (n * up d * down e) (ap (λ (i : ℕ). i * down d) z ∙ zero-mul (down d)),
    )
to_fin (fin false m e) h a c p v f = (
  is_true _ (le_of_values (fin false 0 (pos 0)) (fin false m e) 0 1 (m * up e) (down e) (lit< tt) (down_pos e) (refl, refl) (refl, refl)
      (omega arith)),
  is_true _ (le_of_values (fin false m e) h (m * up e) (down e) a c (down_pos e) p (refl, refl) v f),
)

pub to_tests : (x h : Float) (a c : ℕ) → 0 < c → HasValue h false a c → FromZero x a c → (le (dec 0 0) x ≡ true) × (le x h ≡ true)
to_tests x h a c p v f = let t = to_fin x h a c p v f in (ap (λ (z : Float). le z x) zero_is ∙ t.0, t.1)

-- a test of two whole numbers
pub le_whole : (a b : ℕ) → a ≤ big → b ≤ big → le (of_int binary64 (pos a)) (of_int binary64 (pos b)) ≡ true → a ≤ b
unfolding of_int
le_whole a b p q h =
    let x = round binary64 false a 1 in
    exact x (round_whole binary64 false a p)
    (under_value x (round binary64 false b 1) b 1 (lit< tt) (round-signed a 1 false) (round_whole binary64 false b q) (holds _ h))
  where
    exact : (x : Float) → HasValue x false a 1 → Within x b 1 → a ≤ b
    exact nan v w = absurd v
    exact (inf s) v w = absurd v
    exact (fin s m e) v w = le_of_mul-le-mul_right {k = down e} (omega (arith, v.1)) (down_pos e)
