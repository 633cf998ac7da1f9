-- Day numbers as i64: no step of the code loses anything. Assumes nothing.
use Rattle.prelude.proofs.Logic.{◌≡◌, ℕ, ◌^◌, ◌≤◌, ◌<◌, arith, lit<, pos, ◌-ℤ◌, w64, SFits, to_z}
use Rattle.integers.proofs.Integers.{read_back}
use Rattle.calendar.proofs.Counting.{less_fits, number_read}
use Rattle.hijri.specs.Days.{month_start_of, count_of, day_number_of}
use Rattle.hijri.specs.declared.dates.Tabular.{Tabular}
use Rattle.hijri.proofs.YearSteps.{year_mono, last_year_lem}
use Rattle.hijri.proofs.Existing.{count_is}

-- for any year, month and day that are u32
module _ (d : Tabular) (y : d.year ≤ 4294967295) (m : d.month ≤ 4294967295) (k : d.day ≤ 4294967295) where
  pub count_room : count_of d < 2000000000000
  unfolding month_start_of
  count_room = let a = year_mono d.year 4294967296 (omega arith) in omega (arith, count_is d, last_year_lem)

  module _ (n : ℕ) (e : n ≡ count_of d) where
    pub count_fits : n < 2 ^ 62
    count_fits = let r = count_room in omega arith

    pub number_fits : SFits w64 (to_z w64 n -ℤ pos 492532)
    number_fits = less_fits 492532 n (lit< tt) count_fits

    pub number_is : read_back w64 (to_z w64 n -ℤ pos 492532) ≡ day_number_of d
    unfolding day_number_of
    number_is = rw (← e) (number_read 492532 n (lit< tt) count_fits)
