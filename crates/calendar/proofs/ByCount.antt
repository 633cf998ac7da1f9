-- The date of a day by its number, within the years that a u32 holds. Assumes nothing.
use Rattle.prelude.proofs.Logic.{◌≡◌, refl, ap, cond, ℕ, ◌+◌, ◌-◌, ◌≤◌, ◌<◌, arith, leb, ℤ, pos, ◌+ℤ◌, leb-true, leb-false, le-leb, lt-leb}
use Rattle.prelude.proofs.Logic.{cases}
use Rattle.integers.proofs.Integers.{P}
use Rattle.calendar.specs.Gregorian.{date_of, leap_of}
use Rattle.calendar.specs.Days.{days_in_year_of, days_before_year_of, of_ordinal_of, year_of, date_at_of, date_of_day_of}
use Rattle.calendar.specs.Answers.{held_of, of_day_of}
use Rattle.calendar.specs.Counted.{since_first_of}
use Rattle.calendar.proofs.Counting.{capped}
use Rattle.calendar.proofs.MonthTables.{year_short}
use Rattle.calendar.proofs.YearSteps.{year_step, year_before, year_found, last_year_lem}
use Rattle.calendar.proofs.Existing.{count_back}
use Rattle.calendar.proofs.Neighbours.{year_end}
use Rattle.calendar.proofs.CalendarLaws.{ordinal_last}

since_small : (z : ℤ) → since_first_of z < 1568704592610
unfolding since_first_of
since_small z = let c = capped (P (z +ℤ pos 719528)) 1568704592609 in omega arith

-- a day before the year 4294967296 is in a year that a u32 holds, and a later day is not
year_held : (n : ℕ) → n < 1568704592610 → year_of n ≤ 4294967295
year_held n h = let l = year_before n (year_of n) 4294967296 (year_found n).from (omega (arith, last_year_lem)) in omega arith

year_past : (n : ℕ) → 1568704592609 < n → 4294967295 < year_of n
year_past n h = let l = year_before n 4294967296 (year_of n + 1) (omega (arith, last_year_lem)) (year_found n).before in omega arith

-- the code's numbers: the count n of the day z, the year y of that day, and the days b before that year
module _ (z : ℤ) (n : ℕ) (s : n ≡ since_first_of z) where
  pub days-fit : n < 1568704592610
  days-fit = let l = since_small z in omega arith

  module _ (y : ℕ) (e : y ≡ year_of n) where
    pub year-fits : y ≤ 4294967295
    year-fits = let h = year_held n days-fit in omega arith

    module _ (b : ℕ) (f : b ≡ days_before_year_of y) where
      pub record Rest : Type 0 where
        pub less : b ≤ n + 1
        pub from : 0 < n + 1 - b
        pub to : n + 1 - b ≤ 366

      pub rest : Rest
      unfolding days_in_year_of
      rest =
          let i = year_found n in let s = year_step (year_of n) in let l = year_short (leap_of (year_of n)) in
          let g = ap days_before_year_of e in
          record { less = omega arith; from = omega arith; to = omega arith }

last_date : date_at_of 1568704592609 ≡ date_of 4294967295 12 31
last_date =
    let d = date_of 4294967295 12 31 in let s = year_step 4294967295 in
    count_back d (year_end 4294967295) 1568704592609 (omega (arith, ordinal_last 4294967295, last_year_lem))

year_at : (n : ℕ) → (date_at_of n).year ≡ year_of n
unfolding date_at_of of_ordinal_of
year_at n = refl

pub since_held : (z : ℤ) → date_at_of (since_first_of z) ≡ of_day_of z
unfolding since_first_of held_of date_of_day_of
since_held z = by-test (P (z +ℤ pos 719528))
  where
    by-test : (n : ℕ) → date_at_of (cond (leb n 1568704592609) n 1568704592609) ≡ cond (leb (date_at_of n).year 4294967295) (date_at_of n)
        (date_of 4294967295 12 31)
    by-test n =
        cases (leb n 1568704592609)
        (λ e. let l = leb-true n 1568704592609 e in rw (e, year_at n, le-leb (year_of n) 4294967295 (year_held n (omega arith))))
        (λ e. rw (e, year_at n, lt-leb (year_of n) 4294967295 (year_past n (leb-false n 1568704592609 e))) last_date)
