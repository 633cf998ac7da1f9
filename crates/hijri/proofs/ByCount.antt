-- The date of a day by its number, within the years that a u32 holds. Assumes nothing.
use Rattle.prelude.proofs.Logic.{◌≡◌, refl, sym, ap, ◌∙◌, true, ℕ, ◌+◌, ◌-◌, ◌≤◌, ◌<◌, arith, leb, ℤ, pos, ◌+ℤ◌, leb-true, leb-false}
use Rattle.prelude.proofs.Logic.{le-leb, lt-leb, cases}
use Rattle.integers.proofs.Integers.{P, N, not_positive, sum}
use Rattle.calendar.proofs.Counting.{capped}
use Rattle.hijri.specs.Rule.{date_of, leap_of}
use Rattle.hijri.specs.Days.{year_start_of, month_start_of, year_of, month_of, in_year_of, date_at_of, date_of_day_of, held_of, of_day_of}
use Rattle.hijri.specs.Counted.{since_first_of}
use Rattle.hijri.proofs.YearSteps.{year_step, year_found, year_held, year_past}
use Rattle.hijri.proofs.MonthSteps.{year_short, month_place}

pub since_small : (z : ℤ) → since_first_of z ≤ 1521993243770
unfolding since_first_of
since_small z = capped (P (z +ℤ pos 492148)) 1521993243770

year_at : (n : ℕ) → (date_at_of n).year ≡ year_of n
unfolding date_at_of in_year_of
year_at n = refl

last_date : date_at_of 1521993243770 ≡ date_of 4294967295 12 29
unfolding date_at_of in_year_of year_of month_of year_start_of month_start_of
last_date = refl

-- the code returns the calendar's date, up to the last date of the year 4294967295
pub of_day_is : (z : ℤ) → P (z +ℤ pos 492148) ≤ 1521993243770 → of_day_of z ≡ date_of_day_of z
unfolding held_of date_of_day_of
of_day_is z h =
    let n = P (z +ℤ pos 492148) in
    rw (year_at n, le-leb (year_of n) 4294967295 (year_held n h))

-- and after it that last date
of_day_last : (z : ℤ) → 1521993243770 < P (z +ℤ pos 492148) → of_day_of z ≡ date_at_of 1521993243770
unfolding held_of date_of_day_of
of_day_last z h =
    let n = P (z +ℤ pos 492148) in
    rw (year_at n, lt-leb (year_of n) 4294967295 (year_past n h)) (sym last_date)

pub since_held : (z : ℤ) → date_at_of (since_first_of z) ≡ of_day_of z
unfolding since_first_of date_of_day_of
since_held z =
    let n = P (z +ℤ pos 492148) in
    cases (leb n 1521993243770) (λ e. rw e (sym (of_day_is z (leb-true n 1521993243770 e))))
    (λ e. rw e (sym (of_day_last z (leb-false n 1521993243770 e))))

-- outside the calendar it returns the nearer end
pub of_day_below : (z : ℤ) → P z + 492148 ≤ N z → of_day_of z ≡ date_at_of 0
unfolding date_of_day_of
of_day_below z h =
    let s = sum z (pos 492148) in
    let n = not_positive (z +ℤ pos 492148) (omega arith) in
    of_day_is z (omega arith) ∙ ap date_at_of n

pub of_day_above : (z : ℤ) → N z + 1521992751622 < P z → of_day_of z ≡ date_at_of 1521993243770
of_day_above z h = let s = sum z (pos 492148) in of_day_last z (omega arith)

-- the code's numbers: the count n of the day z, the year y of that day, and the days b before that year
module _ (z : ℤ) (n : ℕ) (s : n ≡ since_first_of z) where
  pub days-fit : n ≤ 1521993243770
  days-fit = let l = since_small z in omega arith

  module _ (y : ℕ) (e : y ≡ year_of n) where
    pub year-fits : y ≤ 4294967295
    year-fits = let h = year_held n days-fit in omega arith

    module _ (b : ℕ) (f : b ≡ year_start_of y) where
      pub record Rest : Type 0 where
        pub less : b ≤ n + 354
        pub short : n + 354 - b < 355

      pub rest : Rest
      rest =
          let i = year_found n in
          let s = year_step (year_of n) in
          let l = year_short (leap_of (year_of n)) in
          let g = ap year_start_of e in
          record { less = omega arith; short = omega arith }

-- the month m of the day k of a year, and the days t before it
module _ (k : ℕ) (h : k < 355) (m : ℕ) (e : m ≡ month_of k) where
  pub month-small : m ≤ 12
  month-small = let p = month_place true k h in omega arith

  pub month-less : (t : ℕ) → t ≡ month_start_of m → t ≤ k + 30
  month-less t f = let p = month_place true k h in let g = ap month_start_of e in omega arith
