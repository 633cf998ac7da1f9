-- The law of the writer: its parts are the hundredths nearest to x, with x's sign; a half goes away from zero. Assumes nothing.
use Rattle.prelude.proofs.Logic.{◌≡◌, refl, sym, ap, ◌∙◌, Bool, true, false, cond, false≢true, ℕ, zero, suc, ◌+◌, ◌*◌, ◌/◌, ◌%◌, ◌≤◌}
use Rattle.prelude.proofs.Logic.{◌<◌, div-mul-le_self, lt-div-mul-add, lt_of_mul-lt-mul_right, arith, le-leb, cases}
use Rattle.float64.proofs.Floats.{Float, nan, inf, fin, up, down, down_pos, is_negative_of}
use Rattle.map_form.specs.declared.MapForm.{MapForm}
use Rattle.map_form.specs.Hundredths.{in_degree, signed, size_of, at_most, form_fits}
use Rattle.map_form.specs.Written.{parts_of, form_of, nearest_count, written_of, nearest_to, hundredths_of}
use Rattle.map_form.specs.Promises.{WrittenIsOwed, OneIsNearest, OneIsOwed}
use Rattle.map_form.specs.Owed.{sign_for, Nearest, NearestParts}
use Rattle.map_form.proofs.Range.{count_le}
use Rattle.map_form.proofs.RoundTrip.{fits}

-- ---- `nearest_to` is the nearest, and there is only one
nearest_is : (a d : ℕ) → 0 < d → Nearest a d (nearest_to a d)
nearest_is a d p =
    let q = nearest_to a d in
    let twice : 0 < 2 * d = omega arith in
    let low : q * (2 * d) ≤ 2 * a + d = div-mul-le_self (2 * a + d) (2 * d) in
    let high : 2 * a + d < q * (2 * d) + 2 * d = lt-div-mul-add twice in
    omega arith

pub one_is_nearest : OneIsNearest
one_is_nearest a d b c h k =
    let x : b * d < (c + 1) * d = omega (arith, below h k) in
    let y : c * d < (b + 1) * d = omega (arith, below k h) in
    let x' : b < c + 1 = lt_of_mul-lt-mul_right d x in
    let y' : c < b + 1 = lt_of_mul-lt-mul_right d y in
    omega arith
  where
    below : {b c : ℕ} → Nearest a d b → Nearest a d c → 2 * (b * d) < 2 * (c * d) + 2 * d
    below {b} {c} h k = omega (arith, h.not_above, k.not_below, k.half_up)

-- ---- the parts of n make n again
whole : (sign n : ℕ) → size_of (parts_of sign n) ≡ n
whole sign n = omega arith

-- ---- the parts for a count
record Made (s : Bool) (n : ℕ) (f : MapForm) : Type 0 where
  size : size_of f ≡ n
  sign : f.sign ≡ sign_for n (cond s 1 0)

made : (s : Bool) (n : ℕ) → Made s n (form_of (signed s n))
made true zero = record { size = refl; sign = refl }
made true (suc n) = record { size = whole 1 (suc n); sign = refl }
made false zero = record { size = refl; sign = refl }
made false (suc n) = record { size = whole 0 (suc n); sign = refl }

right : (x : Float) (most : ℕ) → at_most most x ≡ true → NearestParts x (form_of (nearest_count x))
unfolding at_most is_negative_of hundredths_of
right nan most h = false≢true h
right (inf s) most h = false≢true h
right (fin s m e) most h =
    let c = nearest_to (m * up e * 360000) (down e) in
    let r = made s c in (
      rw r.size (nearest_is (m * up e * 360000) (down e) (down_pos e)),
      r.sign ∙ ap (λ (z : ℕ). sign_for z (cond s 1 0)) (sym r.size),
    )

parts_fit : (most sign n : ℕ) → sign ≤ 1 → n ≤ most * in_degree → form_fits most (parts_of sign n) ≡ true
unfolding form_fits
parts_fit most sign n s h =
    let m : n / 6000 % 60 ≤ 59 = omega arith in
    let t : n / 100 % 60 ≤ 59 = omega arith in
    let c : n % 100 ≤ 99 = omega arith in
    let w : size_of (parts_of sign n) ≤ most * 360000 = omega (arith, whole sign n) in
    simp (
      le-leb sign 1 s,
      le-leb (n / 6000 % 60) 59 m,
      le-leb (n / 100 % 60) 59 t,
      le-leb (n % 100) 99 c,
      le-leb (size_of (parts_of sign n)) (most * 360000) w,
    )

form_fits_lem : (most : ℕ) (s : Bool) (n : ℕ) → n ≤ most * in_degree → form_fits most (form_of (signed s n)) ≡ true
form_fits_lem most true zero h = parts_fit most 0 0 (omega arith) h
form_fits_lem most true (suc n) h = parts_fit most 1 (suc n) (omega arith) h
form_fits_lem most false n h = parts_fit most 0 n (omega arith) h

-- ---- the writer computes the answer that it owes, and no other answer is owed
pub owed : WrittenIsOwed
unfolding written_of
owed tag most x =
    record {
      inside = λ h. rw h (refl, form_fits_lem most (is_negative_of x) (hundredths_of x) (count_le x most h), right x most h);
      outside = λ h. rw h refl;
    }

-- parts in their limits with the same sign and the same count are the same
parts_of_lem : (most : ℕ) (f g : MapForm) → form_fits most f ≡ true → form_fits most g ≡ true → f.sign ≡ g.sign → size_of f ≡ size_of g → f ≡ g
parts_of_lem most f g p q s e =
    let a = fits most f p in
    let b = fits most g q in
    let m : f.minutes ≡ g.minutes =
    omega (arith, e, a.minutes_in_lem, b.minutes_in_lem, a.seconds_in, b.seconds_in, a.hundredths_in, b.hundredths_in) in
    let t : f.seconds ≡ g.seconds =
    omega (arith, e, a.minutes_in_lem, b.minutes_in_lem, a.seconds_in, b.seconds_in, a.hundredths_in, b.hundredths_in) in
    let h : f.hundredths ≡ g.hundredths =
    omega (arith, e, a.minutes_in_lem, b.minutes_in_lem, a.seconds_in, b.seconds_in, a.hundredths_in, b.hundredths_in) in
    let d : f.degrees ≡ g.degrees = omega (arith, e, m, t, h) in
    λ i. record { sign = s i; degrees = d i; minutes = m i; seconds = t i; hundredths = h i }

right_once : (x : Float) (most : ℕ) (f g : MapForm) → form_fits most f ≡ true → form_fits most g ≡ true → NearestParts x f → NearestParts x g
    → f ≡ g
right_once nan most f g p q a b = absurd a
right_once (inf s) most f g p q a b = absurd a
right_once (fin s m e) most f g p q a b =
    let n = one_is_nearest (m * up e * in_degree) (down e) (size_of f) (size_of g) a.0 b.0 in
    parts_of_lem most f g p q (a.1 ∙ ap (λ (z : ℕ). sign_for z (cond s 1 0)) n ∙ sym b.1) n

pub one_is_owed : OneIsOwed
one_is_owed tag most x v w h k =
    cases (at_most most x)
    (λ e. let a = h.inside e in let b = k.inside e in let r : v.refusal ≡ w.refusal = a.0 ∙ sym b.0 in
    let f : v.form ≡ w.form = right_once x most v.form w.form a.1 b.1 a.2 b.2 in
    λ i. record { refusal = r i; form = f i })
    (λ e. h.outside e ∙ sym (k.outside e))
