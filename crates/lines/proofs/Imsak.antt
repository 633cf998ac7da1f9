-- Imsak in the machine's numbers: 60 times a u32, taken from an instant. Assumes nothing.
use Rattle.prelude.proofs.Logic.{◌≡◌, sym, ap, ◌∙◌, true, false, ℕ, ◌*◌, ◌^◌, ◌<◌, arith, ℤ, pos, ◌+ℤ◌, ◌-ℤ◌, ◌*ℤ◌, lt_z, w64, SFits, to_z}
use Rattle.integers.proofs.Integers.{by_balance, lt_yes, lt_no, to_le, to_not_le, same, range, fits, read_back, read, sum, difference}
use Rattle.integers.proofs.Integers.{differences, times}
use Rattle.integers.specs.Ends.{least64}
use Rattle.lines.specs.Lines.{imsak_of}

module _ (m : ℕ) (small : m < 2 ^ 32) where
  -- the minutes in seconds, as the machine works them
  abbrev worked : ℤ
  worked = to_z w64 m *ℤ pos 60

  worked-is : worked ≡ pos (60 * m)
  worked-is =
      let t = times (pos m) 60 in
      rw (read w64 (pos m) (record { sfits = omega arith })) (same (pos m *ℤ pos 60) (pos (60 * m)) (omega (arith, t.over, t.under)))

  pub seconds_fit : SFits w64 worked
  seconds_fit = rw worked-is (record { sfits = omega arith })

  seconds : read_back w64 worked ≡ pos (60 * m)
  seconds = read w64 worked seconds_fit ∙ worked-is

  -- the earliest Fajr that leaves an imsak
  abbrev bound : ℤ
  bound = least64 +ℤ read_back w64 worked

  pub bound-fits : SFits w64 bound
  bound-fits = let s = sum least64 (pos (60 * m)) in rw seconds (fits w64 (least64 +ℤ pos (60 * m)) (omega arith) (omega arith))

  bound-is : read_back w64 bound ≡ least64 +ℤ pos (60 * m)
  bound-is = read w64 bound bound-fits ∙ ap (λ (z : ℤ). least64 +ℤ z) seconds

  module _ (fajr : ℤ) (f : SFits w64 fajr) where
    tested : lt_z (read_back w64 fajr) (read_back w64 bound) ≡ lt_z fajr (least64 +ℤ pos (60 * m))
    tested = ap (λ (z : ℤ). lt_z z (read_back w64 bound)) (read w64 fajr f) ∙ ap (lt_z fajr) bound-is

    pub none_left : lt_z (read_back w64 fajr) (read_back w64 bound) ≡ true → least64 ≡ imsak_of m fajr
    unfolding imsak_of
    none_left t =
        let l = lt_yes fajr (least64 +ℤ pos (60 * m)) (sym tested ∙ t) in
        let s = sum least64 (pos (60 * m)) in
        let d = difference fajr (pos (60 * m)) in
        rw (to_not_le least64 (fajr -ℤ pos (60 * m)) (omega (arith, d.0, d.1)))

    module _ (t : lt_z (read_back w64 fajr) (read_back w64 bound) ≡ false) where
      left_is : read_back w64 fajr -ℤ read_back w64 worked ≡ fajr -ℤ pos (60 * m)
      left_is = differences (read w64 fajr f) seconds

      pub left-fits : SFits w64 (read_back w64 fajr -ℤ read_back w64 worked)
      left-fits =
          let l = lt_no fajr (least64 +ℤ pos (60 * m)) (sym tested ∙ t) in
          let s = sum least64 (pos (60 * m)) in
          let d = difference fajr (pos (60 * m)) in
          let r = range w64 fajr f in
          let b = by_balance 9223372036854775808 9223372036854775807 (fajr -ℤ pos (60 * m)) (omega (arith, d.0, d.1, r.low))
          (omega (arith, d.0, d.1, r.high)) in
          rw left_is (fits w64 (fajr -ℤ pos (60 * m)) (omega (arith, b.to)) (omega (arith, b.from)))

      pub left : read_back w64 (read_back w64 fajr -ℤ read_back w64 worked) ≡ imsak_of m fajr
      unfolding imsak_of
      left =
          let l = lt_no fajr (least64 +ℤ pos (60 * m)) (sym tested ∙ t) in
          let s = sum least64 (pos (60 * m)) in
          let d = difference fajr (pos (60 * m)) in
          rw (to_le least64 (fajr -ℤ pos (60 * m)) (omega (arith, d.0, d.1))) (read w64 _ left-fits ∙ left_is)
