-- Reading and then writing gives the five parts back. Assumes nothing.
use Rattle.prelude.proofs.Logic.{◌≡◌, refl, ◌∙◌, ap, Bool, true, false, ◌&&◌, and-eq-true_iff, ℕ, zero, suc, ◌*◌, ◌/◌, ◌%◌, ◌≤◌, arith, leb}
use Rattle.prelude.proofs.Logic.{eqb, lit<, lit≤, ℤ, pos, negsuc, le-leb, leb-true}
use Rattle.float64.proofs.Floats.{Float, nan, inf, fin, binary64, up, down, round, is_negative_of, Within, Signed, round-within, round-signed}
use Rattle.refusals.specs.Refusals.{no_refusal}
use Rattle.map_form.specs.declared.MapForm.{MapForm}
use Rattle.map_form.specs.declared.writing.Written.{Written}
use Rattle.map_form.specs.Hundredths.{in_degree, signed, size_of, signed_hundredths_of, degrees_of, at_most, form_fits}
use Rattle.map_form.specs.Written.{parts_of, form_of, written_of}
use Rattle.map_form.specs.Promises.{WritingGivesBack}
use Rattle.map_form.specs.Owed.{sign_for}
use Rattle.map_form.proofs.Rounding.{round_back}

-- ---- if the count is in range, so is the rounded float, and it has the count's sign
within_at_most : (x : Float) (n : ℕ) → Within x n 1 → at_most n x ≡ true
unfolding at_most
within_at_most nan n w = absurd w
within_at_most (inf s) n w = absurd w
within_at_most (fin s m e) n w = le-leb (m * up e) (n * down e) (omega (arith, w))

signed_negative : (x : Float) (s : Bool) → Signed s x → is_negative_of x ≡ s
unfolding is_negative_of
signed_negative nan s h = absurd h
signed_negative (inf t) s h = h
signed_negative (fin t m e) s h = h

abbrev accepted : MapForm → Written
accepted f = record { refusal = no_refusal; form = f }

module _ (most : ℕ) (small : most ≤ 180) where
  in_range : (s : Bool) (n : ℕ) → n ≤ most * in_degree → at_most most (round binary64 s n in_degree) ≡ true
  in_range s n h =
      within_at_most (round binary64 s n in_degree) most (round-within n in_degree most 0 (lit< tt) (omega arith) (lit≤ tt) (omega arith) s)

  -- ---- a count in range is written back
  written_back : (tag : ℕ) (s : Bool) (n : ℕ) → n ≤ most * in_degree
      → written_of tag most (round binary64 s n in_degree) ≡ accepted (form_of (signed s n))
  unfolding written_of
  written_back tag s n h =
      rw (in_range s n h, signed_negative (round binary64 s n in_degree) s (round-signed n in_degree s), round_back s n (omega arith))

  -- the size of a count
  abbrev size : ℤ → ℕ
  size (pos n) = n
  size (negsuc n) = suc n

  pub count-in-range : (z : ℤ) → size z ≤ most * in_degree → at_most most (degrees_of z) ≡ true
  unfolding degrees_of
  count-in-range (pos n) h = in_range false n h
  count-in-range (negsuc n) h = in_range true (suc n) h

  count_back : (tag : ℕ) (z : ℤ) → size z ≤ most * in_degree → written_of tag most (degrees_of z) ≡ accepted (form_of z)
  unfolding degrees_of
  count_back tag (pos n) h = written_back tag false n h
  count_back tag (negsuc n) h = written_back tag true (suc n) h

  size-signed : (s : Bool) (n : ℕ) → size (signed s n) ≡ n
  size-signed false n = refl
  size-signed true zero = refl
  size-signed true (suc n) = refl

-- ---- the parts of a count
parts_back : (sign : ℕ) (f : MapForm) → f.minutes ≤ 59 → f.seconds ≤ 59 → f.hundredths ≤ 99
    → parts_of sign (size_of f)
    ≡ record { sign = sign; degrees = f.degrees; minutes = f.minutes; seconds = f.seconds; hundredths = f.hundredths }
parts_back sign f M S H =
    let n = size_of f in
    let a : n / 360000 ≡ f.degrees = omega arith in
    let b : n / 6000 % 60 ≡ f.minutes = omega arith in
    let c : n / 100 % 60 ≡ f.seconds = omega arith in
    let e : n % 100 ≡ f.hundredths = omega arith in
    rw (a, b, c, e)

signs : (sign n : ℕ) → sign ≤ 1 → form_of (signed (eqb sign 1) n) ≡ parts_of (sign_for n sign) n
signs zero zero h = refl
signs zero (suc n) h = refl
signs (suc zero) zero h = refl
signs (suc zero) (suc n) h = refl
signs (suc (suc k)) n h = absurd (omega arith)

-- what the test of the five parts says
pub record Fits (most : ℕ) (f : MapForm) : Type 0 where
  pub sign_in : f.sign ≤ 1
  pub minutes_in_lem : f.minutes ≤ 59
  pub seconds_in : f.seconds ≤ 59
  pub hundredths_in : f.hundredths ≤ 99
  pub whole_in : size_of f ≤ most * in_degree

pub fits : (most : ℕ) (f : MapForm) → form_fits most f ≡ true → Fits most f
unfolding form_fits
fits most f t =
    let a = leb f.sign 1 in
    let b = leb f.minutes 59 in
    let c = leb f.seconds 59 in
    let e = leb f.hundredths 99 in
    let w = both (a && b && c && e) (leb (size_of f) (most * in_degree)) t in
    let x = both (a && b && c) e w.0 in
    let y = both (a && b) c x.0 in
    let z = both a b y.0 in
    record {
      sign_in = leb-true f.sign 1 z.0;
      minutes_in_lem = leb-true f.minutes 59 z.1;
      seconds_in = leb-true f.seconds 59 y.1;
      hundredths_in = leb-true f.hundredths 99 x.1;
      whole_in = leb-true (size_of f) (most * in_degree) w.1;
    }
  where
    both : (a b : Bool) → (a && b) ≡ true → (a ≡ true) × (b ≡ true)
    both a b e = (and-eq-true_iff a b).0 e

pub writing_gives_back : WritingGivesBack
writing_gives_back tag most f small t =
    let a = fits most f t in
    let n = size_of f in
    count_back most small tag (signed_hundredths_of f) (rw (size-signed most small (eqb f.sign 1) n) a.whole_in)
    ∙ ap accepted (signs f.sign n a.sign_in ∙ parts_back (sign_for n f.sign) f a.minutes_in_lem a.seconds_in a.hundredths_in)

-- a coordinate that is accepted is in range as a float too
pub read_in_range : (most : ℕ) → most ≤ 180 → (f : MapForm) → form_fits most f ≡ true → at_most most (degrees_of (signed_hundredths_of f)) ≡ true
read_in_range most small f t =
    count-in-range most small (signed_hundredths_of f) (rw (size-signed most small (eqb f.sign 1) (size_of f)) (fits most f t).whole_in)
