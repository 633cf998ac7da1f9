-- `unwound` does not change an angle above 0 and below 359 degrees: it has no full turn. Assumes nothing.
use Rattle.prelude.proofs.Logic.{◌≡◌, refl, sym, ap, ◌∙◌, Bool, true, false, cond, true≢false, ℕ, ◌*◌, ◌^◌, ◌<◌, div-add-mod', div-eq_of_lt}
use Rattle.prelude.proofs.Logic.{arith, T, eqb, lit<, lit≤, ℤ, eqb-true}
use Rattle.float64.proofs.Floats.{Float, nan, inf, fin, binary64, up, down, round, of_bits, of_int, mul, sub, div, fits, lt, HasValue}
use Rattle.float64.proofs.Floats.{down_pos, dec, floor_of, fraction, whole_part, mul_same, sub_zero64, zero64, inside, Within, Signed}
use Rattle.float64.proofs.Floats.{round-signed, div_within}
use Rattle.unit.specs.Unit.{full_turn, normalized_to_scale_of}

turn_value : HasValue full_turn false 360 1
unfolding dec round
turn_value = (refl, refl)

abbrev nearly : Float
nearly = dec 359 0

nearly_value : HasValue nearly false 359 1
unfolding dec round
nearly_value = (refl, refl)

-- ---- the quotient is below 1, so its floor is 0
floor_zero : (q : Float) → Within q 1022 (2 ^ 10) → Signed false q → HasValue (floor_of q) false 0 1
unfolding floor_of of_int round
floor_zero nan w s = absurd w
floor_zero (inf t) w s = absurd w
floor_zero (fin true k f) w s = absurd (true≢false s)
floor_zero (fin false k f) w s = go (eqb (fraction k f) 0) refl
  where
    less : k * up f < down f
    less = omega (arith, w, down_pos f)

    none : whole_part k f ≡ 0
    none = div-eq_of_lt less

    go : (b : Bool) → eqb (fraction k f) 0 ≡ b → HasValue (cond b (fin false k f) (round binary64 false (whole_part k f) 1)) false 0 1
    go true z = (refl, omega (arith, div-add-mod' (k * up f) (down f), eqb-true (fraction k f) 0 z, ap (λ (i : ℕ). i * down f) none))
    go false z = rw none (refl, refl)

quotient_signed : (m : ℕ) (e : ℤ) → Signed false (div binary64 (fin false m e) full_turn)
unfolding div dec round
quotient_signed m e = round-signed (m * up e * 1) (45 * 2 ^ 3 * down e) false

turns_zero : (m : ℕ) (e : ℤ) → m * up e < 359 * down e → mul binary64 full_turn (floor_of (div binary64 (fin false m e) full_turn)) ≡ zero64
unfolding round of_bits
turns_zero m e l =
    let w = div_within (fin false m e) full_turn false 359 360 1 1 1022 10 (lit< tt) (lit< tt) (lit< tt) (omega arith) turn_value (lit< tt)
    (lit≤ tt) (lit≤ tt) in
    mul_same binary64 full_turn (floor_of (div binary64 (fin false m e) full_turn)) false false 360 0 1 1 (lit< tt) (lit< tt) turn_value
    (floor_zero (div binary64 (fin false m e) full_turn) w (quotient_signed m e))

pub unturned : (x : Float) → T (fits binary64 x) → lt zero64 x ≡ true → lt x nearly ≡ true → x ≡ normalized_to_scale_of x full_turn
unfolding normalized_to_scale_of
unturned =
    inside (λ x. x ≡ sub binary64 x (mul binary64 full_turn (floor_of (div binary64 x full_turn)))) 359 nearly nearly_value
    (λ m e f l. sym (ap (sub binary64 (fin false m e)) (turns_zero m e l) ∙ sub_zero64 (fin false m e) f))
