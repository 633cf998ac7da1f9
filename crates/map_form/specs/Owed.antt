-- Request 7: "A writer gives the nearest hundredth, a half going away from zero, .. where zero is written with sign 0", and "a number out
-- of range by the writer" is refused by 5, "with place 18 or 19". What the writer must return, as a relation over whole numbers. Only one
-- answer meets it (specs/Promises), and specs/Written computes that answer.
use Rattle.std.specs.Prelude.{ℕ, zero, suc, ◌+◌, ◌*◌, ◌≤◌, ◌≡◌, true, false, cond, Float}
use Rattle.std.specs.Float.{nan, inf, fin}
use Rattle.std.specs.Float.Ieee.{up, down}
use Rattle.refusals.specs.Refusals.{refusal, no_refusal, out_of_range}
use Rattle.map_form.specs.declared.MapForm.{MapForm}
use Rattle.map_form.specs.declared.writing.Written.{Written}
use Rattle.map_form.specs.Hundredths.{in_degree, size_of, form_fits, at_most}

-- the sign that is written with a count of hundredths: 0 for a zero
abbrev pub sign_for : ℕ → ℕ → ℕ
sign_for zero sign = 0
sign_for (suc n) sign = sign

abbrev pub no_parts : MapForm
no_parts = record { sign = 0; degrees = 0; minutes = 0; seconds = 0; hundredths = 0 }

-- c is at most a half from a / d, and not a half below it: 2 * |a / d - c| ≤ 1 with the denominators multiplied out
pub record Nearest (a d c : ℕ) : Type 0 where
  pub not_above : 2 * (c * d) ≤ 2 * a + d
  pub not_below : 2 * a ≤ 2 * (c * d) + d
  pub half_up : 2 * a ≡ 2 * (c * d) + d → ⊥

-- x is finite. The parts are the hundredths nearest to the size of its exact value; a half goes away from zero. The sign is x's, or 0 for
-- a zero
abbrev pub NearestParts : Float → MapForm → Type 0
NearestParts nan f = ⊥
NearestParts (inf s) f = ⊥
NearestParts (fin s m e) f = Nearest (m * up e * in_degree) (down e) (size_of f) × (f.sign ≡ sign_for (size_of f) (cond s 1 0))

-- the exact x, before it is rounded, decides on the range. In range: parts that the reader accepts, and that are right. A NaN is outside
pub record Owed (tag most : ℕ) (x : Float) (w : Written) : Type 0 where
  pub inside : at_most most x ≡ true → (w.refusal ≡ no_refusal) × (form_fits most w.form ≡ true) × NearestParts x w.form
  pub outside : at_most most x ≡ false → w ≡ record { refusal = refusal out_of_range tag; form = no_parts }
