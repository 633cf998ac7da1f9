-- What request 7 promises besides Owed. Proved in proofs/: NearestLaws, RoundTrip.
use Rattle.std.specs.Prelude.{ℕ, ◌≤◌, ◌≡◌, true, Float}
use Rattle.refusals.specs.Refusals.{no_refusal}
use Rattle.map_form.specs.declared.MapForm.{MapForm}
use Rattle.map_form.specs.declared.writing.Written.{Written}
use Rattle.map_form.specs.Hundredths.{size_of, signed_hundredths_of, degrees_of, form_fits}
use Rattle.map_form.specs.Owed.{sign_for, Nearest, Owed}
use Rattle.map_form.specs.Written.{written_of}

-- ---- the writer: the answer that specs/Written computes is owed
abbrev pub WrittenIsOwed : Type 0
WrittenIsOwed = (tag most : ℕ) (x : Float) → Owed tag most x (written_of tag most x)

-- no other count is the nearest
abbrev pub OneIsNearest : Type 0
OneIsNearest = (a d b c : ℕ) → Nearest a d b → Nearest a d c → b ≡ c

-- no other answer is owed
abbrev pub OneIsOwed : Type 0
OneIsOwed = (tag most : ℕ) (x : Float) (v w : Written) → Owed tag most x v → Owed tag most x w → v ≡ w

-- ---- there and back: the five parts as the writer writes them, the sign of a zero 0
abbrev pub as_written : MapForm → MapForm
as_written f =
    let sign = sign_for (size_of f) f.sign in
    record { sign = sign; degrees = f.degrees; minutes = f.minutes; seconds = f.seconds; hundredths = f.hundredths }

-- "writing back a read coordinate gives its bytes, where zero is written with sign 0": for every coordinate that is accepted as a latitude
-- (most is 90) or a longitude (180)
abbrev pub WritingGivesBack : Type 0
WritingGivesBack =
    (tag most : ℕ) (f : MapForm) → most ≤ 180 → form_fits most f ≡ true
    → written_of tag most (degrees_of (signed_hundredths_of f)) ≡ record { refusal = no_refusal; form = as_written f }
