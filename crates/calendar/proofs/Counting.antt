-- The number of a day is an i64, and its count from a calendar's first day is a natural number. No step of the code from one to the other
-- loses anything, in either calendar. Assumes nothing.
use Rattle.prelude.proofs.Logic.{◌≡◌, cond, ℕ, ◌^◌, ◌≤◌, ◌<◌, le_refl, arith, leb, pos}
use Rattle.prelude.proofs.Logic.{◌-ℤ◌, leb-true, w64, SFits, to_z, cases}
use Rattle.integers.proofs.Integers.{difference, fits, read_back, read}

-- n, or `last` if n is above it
pub capped : (n last : ℕ) → cond (leb n last) n last ≤ last
capped n last = cases (leb n last) (λ e. rw e (leb-true n last e)) (λ e. rw e (le_refl last))

-- ---- the number of a day: its count n less that of day 0
module _ (origin n : ℕ) (h : origin < 2 ^ 62) (l : n < 2 ^ 62) where
  seen : to_z w64 n ≡ pos n
  seen = read w64 (pos n) (record { sfits = omega arith })

  number_fits : SFits w64 (pos n -ℤ pos origin)
  number_fits = let s = difference (pos n) (pos origin) in
      fits w64 (pos n -ℤ pos origin) (omega (arith, s.0, s.1)) (omega (arith, s.0, s.1))

  pub less_fits : SFits w64 (to_z w64 n -ℤ pos origin)
  less_fits = rw seen number_fits

  pub number_read : read_back w64 (to_z w64 n -ℤ pos origin) ≡ pos n -ℤ pos origin
  number_read = rw (seen, read w64 (pos n -ℤ pos origin) number_fits)
