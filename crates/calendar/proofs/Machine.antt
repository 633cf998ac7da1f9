-- Day numbers as i64: no step of the code loses anything. Assumes nothing.
use Rattle.prelude.proofs.Logic.{◌≡◌, ap, ◌∙◌, ℕ, ◌+◌, ◌^◌, ◌≤◌, ◌<◌, arith, lit<, ℤ, pos, ◌+ℤ◌, ◌-ℤ◌}
use Rattle.prelude.proofs.Logic.{w64, SFits, to_z}
use Rattle.integers.proofs.Integers.{P, N, sum, difference, fits, read_back, read}
use Rattle.calendar.specs.Days.{days_before_year_of, ordinal_of, day_number_of}
use Rattle.calendar.specs.declared.dates.Date.{Date}
use Rattle.calendar.proofs.Counting.{less_fits, number_read}
use Rattle.calendar.proofs.YearSteps.{year_mono, last_year_lem}
use Rattle.calendar.proofs.Existing.{count, ordinal_short}

-- ---- the number of a day
pub count_room : (d : Date) → d.year ≤ 4294967295 → count d < 1568704592977
count_room d h = let o = ordinal_short d in let m = year_mono d.year 4294967296 (omega arith) in omega (arith, last_year_lem)

-- from the days b before its year and the day o of the year
module _ (d : Date) (small : d.year ≤ 4294967295) (b o : ℕ) (e : b ≡ days_before_year_of d.year) (f : o ≡ ordinal_of d) where
  pub count_fits : b + o < 2 ^ 62
  count_fits = let r = count_room d small in omega arith

  pub number_fits : SFits w64 (to_z w64 (b + o) -ℤ pos 719529)
  number_fits = less_fits 719529 (b + o) (lit< tt) count_fits

  pub number_is : read_back w64 (to_z w64 (b + o) -ℤ pos 719529) ≡ day_number_of d
  unfolding day_number_of
  number_is = rw (← e, ← f) (number_read 719529 (b + o) (lit< tt) count_fits)

-- ---- a row's day
module _ (d : Date) (small : d.year ≤ 4294967295) (z : ℤ) (f : SFits w64 z) (e : z ≡ day_number_of d) (row : ℕ) (r : row < 2 ^ 32) where
  row_seen : read_back w64 z +ℤ to_z w64 row ≡ z +ℤ pos row
  row_seen = rw (read w64 z f, read w64 (pos row) (record { sfits = omega arith }))

  sum-small : SFits w64 (z +ℤ pos row)
  unfolding day_number_of
  sum-small =
      let c = count_room d small in let b = difference (pos (count d)) (pos 719529) in let s = sum z (pos row) in
      fits w64 (z +ℤ pos row) (omega (arith, b.0, b.1, ap P e, ap N e)) (omega (arith, b.0, b.1, ap P e, ap N e))

  pub row_fits : SFits w64 (read_back w64 z +ℤ to_z w64 row)
  row_fits = rw row_seen sum-small

  pub row_read : read_back w64 (read_back w64 z +ℤ to_z w64 row) ≡ day_number_of d +ℤ pos row
  row_read = rw row_seen (read w64 (z +ℤ pos row) sum-small ∙ ap (λ (x : ℤ). x +ℤ pos row) e)
