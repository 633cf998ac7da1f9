-- The code's test of the range is that of the exact value; and what it says of the float and of its hundredths. Assumes nothing.
use Rattle.prelude.proofs.Logic.{◌≡◌, refl, Bool, true, false, not, false≢true, ℕ, ◌+◌, ◌*◌, ◌≤◌, ◌<◌, mul-le-mul_right, div-lt_iff_lt-mul}
use Rattle.prelude.proofs.Logic.{arith, T, leb, leb→le, le→leb, lit<, pos, leb-true, le-leb}
use Rattle.float64.proofs.Floats.{Float, nan, inf, fin, binary64, up, down, of_int, le, lt, eq, is_nan, HasValue, down_pos, round_whole}
use Rattle.float64.proofs.Floats.{le_of_values, abs_of, under_value}
use Rattle.map_form.specs.Hundredths.{at_most}
use Rattle.map_form.specs.Written.{nearest_to, hundredths_of}

same : (a b : Bool) → (T a → T b) → (T b → T a) → a ≡ b
same true true f g = refl
same false false f g = refl
same true false f g = absurd (f tt)
same false true f g = absurd (g tt)

not_infinite : (h : Float) (n : ℕ) → HasValue h false n 1 → le (inf false) h ≡ false
unfolding le lt eq
not_infinite nan n v = absurd v
not_infinite (inf s) n v = absurd v
not_infinite (fin s m e) n v = refl

pub at_most_lem : (x h : Float) (n : ℕ) → HasValue h false n 1 → le (abs_of x) h ≡ at_most n x
unfolding abs_of at_most
at_most_lem nan h n v = unfold le lt eq in refl
at_most_lem (inf s) h n v = not_infinite h n v
at_most_lem (fin s m e) h n v =
    same (le (fin false m e) h) (leb (m * up e) (n * down e))
    (λ t. let w = under_value (fin false m e) h n 1 (lit< tt) refl v t in le→leb (m * up e) (n * down e) (omega arith))
    (λ t. let w = leb→le (m * up e) (n * down e) t in
    le_of_values (fin false m e) h (m * up e) (down e) n 1 (down_pos e) (lit< tt) (refl, refl) v (omega arith))

pub whole_value : (n : ℕ) → n ≤ 180 → HasValue (of_int binary64 (pos n)) false n 1
unfolding of_int
whole_value n h = round_whole binary64 false n (omega arith)

-- ---- what follows for a float in the range
pub no_nan : (x : Float) (n : ℕ) → at_most n x ≡ true → T (not (is_nan x))
unfolding at_most is_nan
no_nan nan n h = absurd (false≢true h)
no_nan (inf s) n h = tt
no_nan (fin s m e) n h = tt

pub wider : (x : Float) (n k : ℕ) → n ≤ k → at_most n x ≡ true → at_most k x ≡ true
unfolding at_most
wider nan n k l h = h
wider (inf s) n k l h = h
wider (fin s m e) n k l h = le-leb (m * up e) (k * down e) (omega (arith, leb-true (m * up e) (n * down e) h, mul-le-mul_right (down e) l))

pub count_le : (x : Float) (n : ℕ) → at_most n x ≡ true → hundredths_of x ≤ n * 360000
unfolding at_most hundredths_of
count_le nan n h = omega arith
count_le (inf s) n h = omega arith
count_le (fin s m e) n h = go (m * up e) (down e) (down_pos e) (leb-true (m * up e) (n * down e) h)
  where
    go : (A d : ℕ) → 0 < d → A ≤ n * d → nearest_to (A * 360000) d ≤ n * 360000
    go A d p l =
        let twice : 0 < 2 * d = omega arith in
        let room : 2 * (A * 360000) + d < (n * 360000 + 1) * (2 * d) = omega arith in
        let under : nearest_to (A * 360000) d < n * 360000 + 1 = (div-lt_iff_lt-mul twice).1 room in
        omega arith
