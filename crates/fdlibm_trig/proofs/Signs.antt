-- The test of a size against 70 as two comparisons, and `abs` as x or -x after a test of the sign. Assumes nothing.
use Rattle.prelude.proofs.Logic.{◌≡◌, refl, sym, ap, ◌∙◌, Bool, true, false, false≢true, true≢false, ◌&&◌, ◌||◌, inl, inr, ℕ, ◌+◌, ◌-◌, ◌*◌}
use Rattle.prelude.proofs.Logic.{◌/◌, ◌%◌, ◌^◌, ◌≤◌, mul-pos, eq-zero-or-pos, zero-mul, zero-div, arith, ltb, eqb, ℤ, eq-eqb, ltb-true}
use Rattle.prelude.proofs.Logic.{ltb-false, eqb-true, cases}
use Rattle.float64.proofs.Floats.{Float, nan, inf, fin, up, down, up_pos, neg, le, lt, to_bits, size, round, of_bits, abs_of, high_of}
use Rattle.float64.specs.Ops.{bits, dec}
use Rattle.fdlibm_trig.specs.KTan.{zero}
use Rattle.fdlibm_trig.specs.Trig.{seventy}

-- a number below zero is not above one that is not below zero
low_high : (a b : ℕ) → (ltb 0 (a + b) || (eqb a b && (false || eqb a 0))) ≡ true
low_high a b =
    cases (ltb 0 (a + b)) (λ h. rw h refl)
    (λ h. let l = ltb-false 0 (a + b) h in let z : a ≡ 0 = omega arith in let e : a ≡ b = omega arith in
    simp (h, eq-eqb a b e, eq-eqb a 0 z))

same : (a b : ℕ) → eqb a b ≡ eqb b a
same a b =
    cases (eqb a b) (λ h. h ∙ sym (eq-eqb b a (sym (eqb-true a b h))))
    (λ h. cases (eqb b a) (λ g. eq-eqb a b (sym (eqb-true b a g)) ∙ sym g) (λ g. h ∙ sym g))

and_true : (b : Bool) → b ≡ (b && true)
and_true true = refl
and_true false = refl

between_limits : (n : ℕ) (d : ℤ) (x : Float) → le (abs_of x) (fin false n d) ≡ (le (fin true n d) x && le x (fin false n d))
unfolding le lt abs_of
between_limits n d nan = refl
between_limits n d (inf true) = refl
between_limits n d (inf false) = refl
between_limits n d (fin false m e) = rw (low_high (n * up d * down e) (m * up e * down d)) refl
between_limits n d (fin true m e) =
    rw (low_high (m * up e * down d) (n * up d * down e), same (m * up e * down d) (n * up d * down e)) (and_true _)

-- as the code holds it
abbrev held : Float
held = bits 0x4051_8000_0000_0000

pub within_seventy : (x : Float) → le (abs_of x) seventy ≡ (le (neg held) x && le x held)
unfolding dec round of_bits neg
within_seventy x = between_limits _ _ x

pub negative_size : (x : Float) → lt x zero ≡ true → abs_of x ≡ neg x
unfolding lt abs_of neg of_bits
negative_size nan h = refl
negative_size (inf true) h = refl
negative_size (inf false) h = absurd (false≢true h)
negative_size (fin true m e) h = refl
negative_size (fin false m e) h = let l = ltb-true (m * up e * 1) (0 * 1 * down e) h in absurd (omega arith)

-- -0.0 is not below zero, but its high word is 0
abbrev word : ℕ → ℕ
word n = (2 ^ 63 + (size n - 53) * 2 ^ 52 + n / 2 ^ (size n - 53)) % 2 ^ 63 / 2 ^ 32

none_high : (m : ℕ) (e : ℤ) → m ≡ 0 → high_of (fin true m e) ≡ 0
unfolding high_of to_bits size
none_high m e z =
    let none : m * up e * 2 ^ 1074 / down e ≡ 0 = rw z (simp (zero-mul, zero-div)) in
    ap word none ∙ refl

pub plain_size : (x : Float) → lt x zero ≡ false → 1 ≤ high_of x → abs_of x ≡ x
unfolding lt abs_of of_bits
plain_size nan h i = refl
plain_size (inf true) h i = absurd (true≢false h)
plain_size (inf false) h i = refl
plain_size (fin false m e) h i = refl
plain_size (fin true m e) h i =
    let l = ltb-false 0 (m * up e * 1 + 0 * 1 * down e) h in
    elim (eq-zero-or-pos m) [
      | inl z ↦ let w = none_high m e z in absurd (omega (arith, w, i))
      | inr q ↦ let r = mul-pos q (up_pos e) in absurd (omega arith)
    ]
