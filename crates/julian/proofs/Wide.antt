-- The whole numbers of the Julian Day as i64: no step loses anything. Assumes nothing.
use Rattle.prelude.proofs.Logic.{◌≡◌, arith, lit<, ℤ, pos, ◌+ℤ◌, ◌-ℤ◌, quot_z, w64, SFits}
use Rattle.integers.proofs.Integers.{sum, difference, divided, range, fits, read_back, read}
use Rattle.julian.specs.Julian.{correction_of}

-- ---- 2 - a + a / 4, where a is year / 100
module _ (year : ℤ) (f : SFits w64 year) where
  a : ℤ
  a = quot_z year (pos 100)

  -- as the machine reads it
  abbrev aRead : ℤ
  aRead = read_back w64 (quot_z (read_back w64 year) (pos 100))

  a-fits : SFits w64 a
  unfolding a
  a-fits = let d = divided year 100 (lit< tt) in let r = range w64 year f in fits w64 a (omega arith) (omega arith)

  pub century-fits : SFits w64 (quot_z (read_back w64 year) (pos 100))
  unfolding a
  century-fits = rw (read w64 year f) a-fits

  century : aRead ≡ a
  unfolding a
  century = rw (read w64 year f) (read w64 a a-fits)

  less_fits : SFits w64 (pos 2 -ℤ a)
  unfolding a
  less_fits =
      let d = divided year 100 (lit< tt) in
      let r = range w64 year f in
      let s = difference (pos 2) a in
      fits w64 (pos 2 -ℤ a) (omega (arith, s.0, s.1)) (omega (arith, s.0, s.1))

  pub two-less-fits : SFits w64 (pos 2 -ℤ aRead)
  two-less-fits = rw century less_fits

  quarter-fits : SFits w64 (quot_z a (pos 4))
  quarter-fits = let d = divided a 4 (lit< tt) in let r = range w64 a a-fits in fits w64 (quot_z a (pos 4)) (omega arith) (omega arith)

  pub fourth-fits : SFits w64 (quot_z aRead (pos 4))
  fourth-fits = rw century quarter-fits

  whole-fits : SFits w64 ((pos 2 -ℤ a) +ℤ quot_z a (pos 4))
  unfolding a
  whole-fits =
      let d = divided year 100 (lit< tt) in
      let q = divided a 4 (lit< tt) in
      let r = range w64 year f in
      let s = difference (pos 2) a in
      let t = sum (pos 2 -ℤ a) (quot_z a (pos 4)) in
      fits w64 ((pos 2 -ℤ a) +ℤ quot_z a (pos 4)) (omega (arith, s.0, s.1)) (omega (arith, s.0, s.1))

  terms : read_back w64 (pos 2 -ℤ aRead) +ℤ read_back w64 (quot_z aRead (pos 4)) ≡ (pos 2 -ℤ a) +ℤ quot_z a (pos 4)
  terms = rw (century, read w64 (pos 2 -ℤ a) less_fits, read w64 (quot_z a (pos 4)) quarter-fits)

  pub sum_fits : SFits w64 (read_back w64 (pos 2 -ℤ aRead) +ℤ read_back w64 (quot_z aRead (pos 4)))
  sum_fits = rw terms whole-fits

  pub correction-read : read_back w64 (read_back w64 (pos 2 -ℤ aRead) +ℤ read_back w64 (quot_z aRead (pos 4))) ≡ correction_of year
  unfolding a correction_of
  correction-read = rw (terms, read w64 ((pos 2 -ℤ a) +ℤ quot_z a (pos 4)) whole-fits)
