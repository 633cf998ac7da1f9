-- When a sum of two i64 saturates, and when it fits. Assumes nothing.
use Rattle.prelude.proofs.Logic.{◌≡◌, sym, ◌∙◌, true, false, ◌+◌, ◌<◌, arith, ℤ, pos, ◌+ℤ◌, lt_z, w64, SFits, cases, ap, negsuc, leb, leb-true, leb-false, min-eq_left, min-eq_right, le_of_lt}
use Rattle.integers.proofs.Integers.{P, N, sum, lt_yes, lt_no, to_lt, to_not_lt}
use Rattle.integers.proofs.Integers.{range}
use Rattle.std.specs.Int.{saturate_signed}
use Rattle.integers.specs.Ends.{least64, most64}
use Rattle.whole_minutes.specs.Times.{sat_of}
use Rattle.whole_minutes.proofs.TimesLaws.{between, sat_in}

pub sat_high : (z : ℤ) → P most64 + N z < P z → most64 ≡ sat_of z
unfolding sat_of
sat_high z h = rw (to_lt most64 z (omega arith))

pub sat_low : (z : ℤ) → N least64 + P z < N z → least64 ≡ sat_of z
unfolding sat_of
sat_low z h = rw (to_not_lt most64 z (omega arith), to_lt z least64 (omega arith))

-- std's saturated sum
pub saturated : (z : ℤ) → saturate_signed w64 z ≡ sat_of z
saturated (pos n) =
    cases (leb n 9223372036854775807)
    (λ e. let l = leb-true n 9223372036854775807 e in
    ap pos (min-eq_left l) ∙ sym (sat_in (pos n) (record { sfits = omega arith })))
    (λ e. let l = leb-false n 9223372036854775807 e in ap pos (min-eq_right (le_of_lt l)) ∙ sat_high (pos n) (omega arith))
saturated (negsuc n) =
    cases (leb n 9223372036854775807)
    (λ e. let l = leb-true n 9223372036854775807 e in
    ap negsuc (min-eq_left l) ∙ sym (sat_in (negsuc n) (record { sfits = omega arith })))
    (λ e. let l = leb-false n 9223372036854775807 e in ap negsuc (min-eq_right (le_of_lt l)) ∙ sat_low (negsuc n) (omega arith))

-- a saturated sum stays at that end of the range if a number of the same sign is added
module _ (t h : ℤ) (f : SFits w64 t) where
  abbrev Twice : Type 0
  Twice = sat_of (sat_of (t +ℤ h) +ℤ h) ≡ sat_of (t +ℤ h +ℤ h)

  high : lt_z most64 (t +ℤ h) ≡ true → Twice
  high p =
      let l = lt_yes most64 (t +ℤ h) p in
      let r = range w64 t f in
      let s = sum t h in
      let u = sum (t +ℤ h) h in
      let v = sum most64 h in
      rw (sym (sat_high (t +ℤ h) (omega arith))) (sym (sat_high (most64 +ℤ h) (omega arith)) ∙ sat_high (t +ℤ h +ℤ h) (omega arith))

  low : lt_z (t +ℤ h) least64 ≡ true → Twice
  low p =
      let l = lt_yes (t +ℤ h) least64 p in
      let r = range w64 t f in
      let s = sum t h in
      let u = sum (t +ℤ h) h in
      let v = sum least64 h in
      rw (sym (sat_low (t +ℤ h) (omega arith))) (sym (sat_low (least64 +ℤ h) (omega arith)) ∙ sat_low (t +ℤ h +ℤ h) (omega arith))

  within : lt_z most64 (t +ℤ h) ≡ false → lt_z (t +ℤ h) least64 ≡ false → Twice
  within p q = rw (sat_in (t +ℤ h) (between (t +ℤ h) (lt_no (t +ℤ h) least64 q) (lt_no most64 (t +ℤ h) p)))

  pub sat-twice : sat_of (sat_of (t +ℤ h) +ℤ h) ≡ sat_of (t +ℤ h +ℤ h)
  sat-twice = cases (lt_z most64 (t +ℤ h)) high (λ p. cases (lt_z (t +ℤ h) least64) low (within p))
