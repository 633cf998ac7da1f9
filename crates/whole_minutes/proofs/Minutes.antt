-- What rounding adds, and minutes as two halves, as the code computes them. Assumes nothing.
use Rattle.prelude.proofs.Logic.{◌≡◌, ap, ◌∙◌, true, false, ℕ, ◌≤◌, arith, ℤ, pos, negsuc}
use Rattle.prelude.proofs.Logic.{◌+ℤ◌, ◌-ℤ◌, ◌*ℤ◌, lt_z, w32, w64, SFits, Fits, to_z}
use Rattle.integers.proofs.Integers.{same, sum, difference, times, lt_yes, lt_no, read_back, read, range}
use Rattle.integers.proofs.Integers.{fits}
use Rattle.integers.specs.Ends.{least64, most64}
use Rattle.whole_minutes.specs.Times.{sat_of, adjusted_of}
use Rattle.whole_minutes.proofs.TimesLaws.{between}
use Rattle.whole_minutes.proofs.Saturation.{sat_high, sat_low, sat-twice}

-- ---- what rounding adds: k less the second
pub less_fits : (k s : ℕ) → k ≤ 60 → Fits w32 s → SFits w64 (pos k -ℤ to_z w64 s)
less_fits k s h f =
    let l = f.fits in
    let d = difference (pos k) (pos s) in
    rw (read w64 (pos s) (record { sfits = omega arith }))
    (fits w64 (pos k -ℤ pos s) (omega (arith, d.0, d.1)) (omega (arith, d.0, d.1)))

pub less_is : (k s : ℕ) → k ≤ 60 → Fits w32 s → read_back w64 (pos k -ℤ to_z w64 s) ≡ pos k -ℤ pos s
less_is k s h f = read w64 (pos k -ℤ to_z w64 s) (less_fits k s h f) ∙ rw (read w64 (pos s) (record { sfits = omega (arith, f.fits) }))

-- ---- minutes: more than 2 ^ 64 / 60 take every time out of range; for fewer half of the seconds fits
abbrev far_ahead : ℤ
far_ahead = pos 307445734561825860

abbrev far_back : ℤ
far_back = negsuc 307445734561825859

module _ (t k : ℤ) (ht : SFits w64 t) (hk : SFits w64 k) where
  rk : read_back w64 k ≡ k
  rk = read w64 k hk

  pub far-up : lt_z far_ahead (read_back w64 k) ≡ true → most64 ≡ sat_of (adjusted_of t k)
  unfolding adjusted_of
  far-up l = sat_high (t +ℤ k *ℤ pos 60) (omega (arith, lt_yes far_ahead k (rw rk at l), range w64 t ht, times k 60, sum t (k *ℤ pos 60)))

  pub far-down : lt_z (read_back w64 k) far_back ≡ true → least64 ≡ sat_of (adjusted_of t k)
  unfolding adjusted_of
  far-down l = sat_low (t +ℤ k *ℤ pos 60) (omega (arith, lt_yes k far_back (rw rk at l), range w64 t ht, times k 60, sum t (k *ℤ pos 60)))

  -- half the seconds, as the code holds them
  abbrev half : ℤ
  half = read_back w64 k *ℤ pos 30

  pub half-fits : lt_z far_ahead (read_back w64 k) ≡ false → lt_z (read_back w64 k) far_back ≡ false → SFits w64 half
  half-fits a b =
      let m = lt_no far_ahead k (rw rk at a) in
      let n = lt_no k far_back (rw rk at b) in
      let p = times k 30 in
      rw rk (between (k *ℤ pos 30) (omega arith) (omega arith))

  twice : t +ℤ k *ℤ pos 30 +ℤ k *ℤ pos 30 ≡ t +ℤ k *ℤ pos 60
  twice =
      let p = times k 30 in
      let q = times k 60 in
      let s = sum t (k *ℤ pos 30) in
      same (t +ℤ k *ℤ pos 30 +ℤ k *ℤ pos 30) (t +ℤ k *ℤ pos 60) (omega (arith, sum (t +ℤ k *ℤ pos 30) (k *ℤ pos 30), sum t (k *ℤ pos 60)))

  pub adjusted-is :
      (x r : ℤ) → SFits w64 half → read_back w64 x ≡ x → read_back w64 r ≡ r →
      x ≡ sat_of (read_back w64 t +ℤ read_back w64 half) → r ≡ sat_of (read_back w64 x +ℤ read_back w64 half)
      → read_back w64 r ≡ sat_of (adjusted_of t k)
  unfolding adjusted_of
  adjusted-is x r f p q d e =
      let h : read_back w64 half ≡ k *ℤ pos 30 = read w64 half f ∙ rw rk in
      let a : x ≡ sat_of (t +ℤ k *ℤ pos 30) = d ∙ rw (h, read w64 t ht) in
      q ∙ e ∙ rw (p, h, a) (sat-twice t (k *ℤ pos 30) ht ∙ ap sat_of twice)
