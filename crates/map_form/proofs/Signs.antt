-- What the writer returns: in range, with the sign of a count that is not zero; and out of range. Assumes nothing.
use Rattle.prelude.proofs.Logic.{◌≡◌, refl, Bool, true, false, cond, ℕ, zero, suc, arith}
use Rattle.float64.proofs.Floats.{Float, is_negative_of}
use Rattle.refusals.specs.Refusals.{refusal, no_refusal}
use Rattle.map_form.specs.Hundredths.{signed, at_most}
use Rattle.map_form.specs.Written.{parts_of, form_of, written_of, hundredths_of}
use Rattle.map_form.specs.Owed.{sign_for, no_parts}

pub naught : (s : Bool) (n : ℕ) → n ≡ 0 → 0 ≡ sign_for n (cond s 1 0)
naught s zero e = refl
naught s (suc n) e = absurd (omega arith)

pub some : (s : Bool) (n : ℕ) → (n ≡ 0 → ⊥) → cond s 1 0 ≡ sign_for n (cond s 1 0)
some s zero e = absurd (e refl)
some s (suc n) e = refl

form_of_lem : (s : Bool) (n : ℕ) → parts_of (sign_for n (cond s 1 0)) n ≡ form_of (signed s n)
form_of_lem true zero = refl
form_of_lem true (suc n) = refl
form_of_lem false zero = refl
form_of_lem false (suc n) = refl

module _ (tag most : ℕ) (x : Float) where
  pub inside : (n sign : ℕ) → at_most most x ≡ true → n ≡ hundredths_of x → sign ≡ sign_for n (cond (is_negative_of x) 1 0)
      → record { refusal = no_refusal; form = parts_of sign n } ≡ written_of tag most x
  unfolding written_of
  inside n sign h e s = rw (h, s, e, form_of_lem (is_negative_of x) (hundredths_of x))

  pub outside : at_most most x ≡ false → record { refusal = refusal 5 tag; form = no_parts } ≡ written_of tag most x
  unfolding written_of
  outside h = rw h
