-- From the Gregorian calendar to the tabular one and back, and the other way, by the number of the day. Assumes nothing.
use Rattle.prelude.proofs.Logic.{◌≡◌, ap, ◌∙◌, true, ◌+◌, ◌≤◌, arith, ℤ, pos, negsuc, ◌+ℤ◌, le_z, le-leb}
use Rattle.integers.proofs.Integers.{not_negative, sum, le_yes, to_le}
use Rattle.calendar.specs.declared.dates.Date.{Date}
use Rattle.calendar.specs.Gregorian as gregorian
use Rattle.calendar.specs.Days as gregorian-days
use Rattle.calendar.specs.Answers as gregorian-code
use Rattle.calendar.proofs.CalendarLaws as gregorian-laws
use Rattle.hijri.specs.Rule.{exists_of}
use Rattle.hijri.specs.Days.{day_number_of, date_of_day_of, of_day_of}
use Rattle.hijri.specs.declared.dates.Tabular.{Tabular}
use Rattle.hijri.proofs.YearSteps.{year_step, year_mono, last_year_lem}
use Rattle.hijri.proofs.Existing.{exists_yes, month_of_date, count_is, count_least}
use Rattle.hijri.proofs.TabularLaws.{balance, date_of_number, number_of_date}
use Rattle.hijri.proofs.ByCount.{of_day_is}

-- ---- what the code returns, in the years that a u32 holds
-- the number of a date that exists gives the date back
pub of_day_back : (d : Tabular) → exists_of d ≡ true → d.year ≤ 4294967295 → of_day_of (day_number_of d) ≡ d
of_day_back d h y =
    let m = month_of_date d (exists_yes d h) in
    let e = exists_yes d h in
    let l = count_least d h in
    let s = year_step d.year in
    let i = year_mono (d.year + 1) 4294967296 (omega arith) in
    let b = balance d in
    let a = sum (day_number_of d) (pos 492148) in
    let n = not_negative (day_number_of d +ℤ pos 492148) (omega arith) in
    of_day_is (day_number_of d) (omega (arith, count_is d, last_year_lem)) ∙ date_of_number d h

-- and the date of a day from 1-1-1 to the last of the year 4294967295 gives the day's number back
pub of_day_forth : (z : ℤ) → le_z (negsuc 492147) z ≡ true → le_z z (pos 1521992751622) ≡ true → day_number_of (of_day_of z) ≡ z
of_day_forth z l h =
    let a = le_yes (negsuc 492147) z l in
    let b = le_yes z (pos 1521992751622) h in
    let s = sum z (pos 492148) in
    let n = not_negative (z +ℤ pos 492148) (omega arith) in
    ap day_number_of (of_day_is z (omega arith)) ∙ number_of_date z l

-- ---- Gregorian, tabular, Gregorian: for every date from 1-1-1 on
pub there_and_back : (d : Date) → gregorian.exists_of d ≡ true → le_z (negsuc 492147) (gregorian-days.day_number_of d) ≡ true →
    gregorian-days.date_of_day_of (day_number_of (date_of_day_of (gregorian-days.day_number_of d))) ≡ d
there_and_back d h l =
    ap gregorian-days.date_of_day_of (number_of_date (gregorian-days.day_number_of d) l) ∙ gregorian-laws.date_of_number d h

-- tabular, Gregorian, tabular: for every date
pub back_and_there : (d : Tabular) → exists_of d ≡ true
    → date_of_day_of (gregorian-days.day_number_of (gregorian-days.date_of_day_of (day_number_of d))) ≡ d
back_and_there d h =
    let l = count_least d h in
    let b = balance d in
    ap date_of_day_of (gregorian-laws.number_of_date (day_number_of d) (to_le (negsuc 719527) (day_number_of d) (omega arith)))
    ∙ date_of_number d h

-- ---- the same by the functions of the code, for every date of 1899 to 2200: an order's dates, with all that a shift and 30 rows reach
module _ (d : Date) (h : gregorian.exists_of d ≡ true) (p : 1899 ≤ d.year) (q : d.year ≤ 2200) where
  number-kept : day_number_of (of_day_of (gregorian-days.day_number_of d)) ≡ gregorian-days.day_number_of d
  number-kept =
      let b = gregorian-laws.days_between d h p q in
      let z = gregorian-days.day_number_of d in
      let l = le_yes (negsuc 25931) z b.0 in
      let u = le_yes z (pos 84370) b.1 in
      of_day_forth z (to_le (negsuc 492147) z (omega arith)) (to_le z (pos 1521992751622) (omega arith))

  held : gregorian-code.held_of d ≡ d
  unfolding gregorian-code.held_of
  held = rw (le-leb d.year 4294967295 (omega arith))

  pub order-date : gregorian-code.of_day_of (day_number_of (of_day_of (gregorian-days.day_number_of d))) ≡ d
  order-date = ap gregorian-code.of_day_of number-kept ∙ ap gregorian-code.held_of (gregorian-laws.date_of_number d h) ∙ held
