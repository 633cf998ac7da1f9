-- What the definitions of specs/Whole.antt share: each returns a number with no fraction as it is, and two of them are odd functions.
-- Assumes nothing.
use Rattle.prelude.proofs.Logic.{◌≡◌, refl, sym, ap, ◌∙◌, Bool, true, false, cond, false≢true, ℕ, suc, ◌+◌, ◌*◌, ◌%◌, ◌^◌, ◌≤◌, zero-mod}
use Rattle.prelude.proofs.Logic.{mod-one, div-add-mod', arith, T, eqb, lit<, ℤ, pos, negsuc, ltb-true, ltb-false, lt-ltb, eq-eqb}
use Rattle.prelude.proofs.Ieee.{Float, nan, inf, fin, binary64, up, down, fits, of_bits, of_int, neg, lt, round-fits}
use Rattle.float64.specs.Whole.{floor_of, trunc_of, round_of, whole_part, fraction, half_up}
use Rattle.float64.proofs.Values.{big, value_unique, fraction_below}
use Rattle.float64.proofs.Near.{W, at, at_value, whole64}

abbrev pub zero64 : Float
zero64 = of_bits binary64 0

-- ---- opposites
pub neg_neg : (x : Float) → neg (neg x) ≡ x
unfolding neg
neg_neg nan = refl
neg_neg (inf true) = refl
neg_neg (inf false) = refl
neg_neg (fin true m e) = refl
neg_neg (fin false m e) = refl

pub neg_positive : (x : Float) → lt x zero64 ≡ true → lt zero64 (neg x) ≡ true
unfolding lt neg of_bits
neg_positive nan h = absurd (false≢true h)
neg_positive (inf true) h = refl
neg_positive (inf false) h = absurd (false≢true h)
neg_positive (fin true m e) h = lt-ltb (0 * down e) (m * up e * 1) (omega (arith, ltb-true 0 (m * up e * 1 + 0 * down e) h))
neg_positive (fin false m e) h = absurd (omega (arith, ltb-true (m * up e * 1) (0 * down e) h))

-- each side of a `cond` is the other's opposite
neg_cond : (t : Bool) (x y : Float) → cond t (neg x) (neg y) ≡ neg (cond t x y)
neg_cond true x y = refl
neg_cond false x y = refl

pub trunc_odd : (x : Float) → trunc_of (neg x) ≡ neg (trunc_of x)
unfolding trunc_of neg
trunc_odd nan = refl
trunc_odd (inf s) = refl
trunc_odd (fin true m e) =
    ap (cond (eqb (fraction m e) 0) (fin false m e)) (sym (neg_neg (of_int binary64 (pos (whole_part m e)))))
    ∙ neg_cond (eqb (fraction m e) 0) (fin true m e) (neg (of_int binary64 (pos (whole_part m e))))
trunc_odd (fin false m e) = neg_cond (eqb (fraction m e) 0) (fin false m e) (of_int binary64 (pos (whole_part m e)))

pub round_odd : (x : Float) → round_of (neg x) ≡ neg (round_of x)
unfolding round_of neg
round_odd nan = refl
round_odd (inf s) = refl
round_odd (fin true m e) =
    ap (cond (eqb (fraction m e) 0) (fin false m e)) (sym (neg_neg (of_int binary64 (pos (half_up m e)))))
    ∙ neg_cond (eqb (fraction m e) 0) (fin true m e) (neg (of_int binary64 (pos (half_up m e))))
round_odd (fin false m e) = neg_cond (eqb (fraction m e) 0) (fin false m e) (of_int binary64 (pos (half_up m e)))

pub floor_positive : (x : Float) → lt zero64 x ≡ true → trunc_of x ≡ floor_of x
unfolding trunc_of floor_of lt of_bits
floor_positive nan h = refl
floor_positive (inf s) h = refl
floor_positive (fin true m e) h = absurd (false≢true h)
floor_positive (fin false m e) h = refl

-- ---- numbers with no fraction
abbrev pub Still : Float → Type 0
Still x = (x ≡ floor_of x) × (x ≡ trunc_of x) × (x ≡ round_of x)

still : (s : Bool) (m : ℕ) (e : ℤ) → fraction m e ≡ 0 → Still (fin s m e)
unfolding floor_of trunc_of round_of
still s m e h = let t = eq-eqb (fraction m e) 0 h in (rw t, rw t, rw t)

-- a float that is neither above nor below zero is a zero or a NaN
pub still_zero : (x : Float) → lt zero64 x ≡ false → lt x zero64 ≡ false → Still x
unfolding lt of_bits
still_zero nan h k = unfold floor_of trunc_of round_of in (refl, refl, refl)
still_zero (inf s) h k = unfold floor_of trunc_of round_of in (refl, refl, refl)
still_zero (fin false m e) h k =
    let l = ltb-false (0 * down e) (m * up e * 1) h in let z : m * up e ≡ 0 = omega arith in
    still false m e (ap (λ (n : ℕ). n % down e) z ∙ zero-mod (down e))
still_zero (fin true m e) h k =
    let l = ltb-false 0 (m * up e * 1 + 0 * down e) k in let z : m * up e ≡ 0 = omega arith in
    still true m e (ap (λ (n : ℕ). n % down e) z ∙ zero-mod (down e))

-- from 2 ^ 52 on a float has no fraction, and its opposite has none
pub still_far : (x : Float) → T (fits binary64 x) → lt zero64 x ≡ true → lt x whole64 ≡ false → Still x × Still (neg x)
unfolding lt of_bits neg
still_far nan f h k = absurd (false≢true h)
still_far (inf s) f h k = unfold floor_of trunc_of round_of in ((refl, refl, refl), (refl, refl, refl))
still_far (fin true m e) f h k = absurd (false≢true h)
still_far (fin false m (pos j)) f h k = (still false m (pos j) (mod-one (m * 2 ^ j)), still true m (pos j) (mod-one (m * 2 ^ j)))
still_far (fin false m (negsuc j)) f h k = absurd (omega (arith, ltb-false (m * 1 * 1) (W * 2 ^ suc j) k, fraction_below false m j f))

-- the whole part as a float is x, if x has no fraction
pub own_whole : (m : ℕ) (e : ℤ) → T (fits binary64 (fin false m e)) → whole_part m e ≤ big → fraction m e ≡ 0
    → at (whole_part m e) ≡ fin false m e
own_whole m e f l z =
    let q = whole_part m e in let g = div-add-mod' (m * up e) (down e) in let v : m * up e * 1 ≡ q * down e = omega arith in
    value_unique binary64 (at q) (fin false m e) false q 1 (lit< tt) (round-fits binary64 false q 1) f (at_value q l) (refl, v)
