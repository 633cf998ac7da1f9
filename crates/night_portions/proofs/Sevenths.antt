-- A seventh of an i64 is an i64, and the machine reads it back. Assumes nothing.
use Rattle.prelude.proofs.Logic.{◌≡◌, arith, lit<, ℤ, pos, quot_z, w64, SFits}
use Rattle.integers.proofs.Integers.{divided, range, fits, read_back, read}
use Rattle.night_portions.specs.Portions.{seventh_of}

module _ (night : ℤ) (f : SFits w64 night) where
  fits-seventh : SFits w64 (quot_z night (pos 7))
  fits-seventh = let d = divided night 7 (lit< tt) in let r = range w64 night f in
      fits w64 (quot_z night (pos 7)) (omega arith) (omega arith)

  pub seventh-fits : SFits w64 (quot_z (read_back w64 night) (pos 7))
  seventh-fits = rw (read w64 night f) fits-seventh

  pub seventh-read : read_back w64 (quot_z (read_back w64 night) (pos 7)) ≡ seventh_of night
  unfolding seventh_of
  seventh-read = rw (read w64 night f) (read w64 (quot_z night (pos 7)) fits-seventh)
