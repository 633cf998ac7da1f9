-- The laws of the calendar: the formulas of Days give the calendar of Rule, in every year from 1 on. Assumes nothing.
-- first_day and day_after give every date's number by the rule alone. The last two laws go from a date to its number and back.
use Rattle.prelude.proofs.Logic.{◌≡◌, refl, ap, true, ◌+◌, arith, ltb, ℤ, pos, negsuc, ◌+ℤ◌, le_z, ltb-true, ltb-false, cases}
use Rattle.integers.proofs.Integers.{P, N, same, not_negative, sum, difference, le_yes}
use Rattle.hijri.specs.Rule.{date_of, leap_of, length_of, month_days_of, exists_of, day_after_of}
use Rattle.hijri.specs.Days.{year_start_of, month_start_of, count_of, day_number_of, date_at_of, date_of_day_of}
use Rattle.hijri.specs.declared.dates.Tabular.{Tabular}
use Rattle.hijri.proofs.YearSteps.{year_step}
use Rattle.hijri.proofs.MonthSteps.{month_first, month_step, month_last, length_some}
use Rattle.hijri.proofs.Existing.{exists_yes, to_exists, month_of_date, count_is, count_least, count_back, count_forth}

-- ---- the day after, by the rule
record Follows (d e : Tabular) : Type 0 where
  there : exists_of e ≡ true
  number : count_of e ≡ count_of d + 1

after : (d : Tabular) → exists_of d ≡ true → Follows d (day_after_of d)
unfolding day_after_of
after d h =
    let leap = leap_of d.year in let x = exists_yes d h in let m = month_of_date d x in
    cases (ltb d.day (month_days_of d.year d.month))
    (λ p. let e = date_of d.year d.month (d.day + 1) in let l = ltb-true d.day (month_days_of d.year d.month) p in
    rw p (record {
      there = to_exists e (record { year = x.year; from = omega arith; to = omega arith });
      number = omega (arith, count_is d, count_is e);
    }))
    (λ p. let l = ltb-false d.day (month_days_of d.year d.month) p in
    cases (ltb d.month 12)
    (λ q. let e = date_of d.year (d.month + 1) 1 in let u = ltb-true d.month 12 q in
    rw (p, q) (record {
      there = to_exists e (record { year = x.year; from = omega arith; to = length_some leap d.month u });
      number = omega (arith, month_step leap d.month m.first u, count_is d, count_is e);
    }))
    (λ q. let e = date_of (d.year + 1) 1 1 in let t : d.month ≡ 12 = omega (arith, ltb-false d.month 12 q) in
    rw (p, q) (record {
      there = to_exists e (record { year = omega arith; from = omega arith; to = length_some (leap_of (d.year + 1)) 0 (omega arith) });
      number =
          omega (arith, year_step d.year, month_last leap, count_is d, count_is e, ap month_start_of t, ap (length_of leap) t, month_first);
    })))

-- ---- day numbers
pub first_day : day_number_of (date_of 1 1 1) ≡ negsuc 492147
unfolding day_number_of count_of year_start_of month_start_of
first_day = refl

pub first_exists : exists_of (date_of 1 1 1) ≡ true
first_exists = to_exists (date_of 1 1 1) (record { year = omega arith; from = omega arith; to = length_some (leap_of 1) 0 (omega arith) })

-- d's count is the number of its day plus 492532
pub balance : (d : Tabular) → P (day_number_of d) + 492532 ≡ N (day_number_of d) + count_of d
unfolding day_number_of
balance d = let s = difference (pos (count_of d)) (pos 492532) in omega (arith, s.0, s.1)

pub numbered : (d : Tabular) (z : ℤ) → P z + 492532 ≡ N z + count_of d → day_number_of d ≡ z
numbered d z h = let b = balance d in same (day_number_of d) z (omega arith)

pub day_after : (d : Tabular) → exists_of d ≡ true → day_number_of (day_after_of d) ≡ day_number_of d +ℤ pos 1
day_after d h = numbered (day_after_of d) (day_number_of d +ℤ pos 1) (omega (arith, (after d h).number, balance d, sum (day_number_of d) (pos 1)))

pub day_after_exists : (d : Tabular) → exists_of d ≡ true → exists_of (day_after_of d) ≡ true
day_after_exists d h = (after d h).there

-- ---- from a date to the number of its day and back
pub date_of_number : (d : Tabular) → exists_of d ≡ true → date_of_day_of (day_number_of d) ≡ d
unfolding date_of_day_of
date_of_number d h =
    let l = count_least d h in
    let b = balance d in
    let s = sum (day_number_of d) (pos 492148) in
    let n = not_negative (day_number_of d +ℤ pos 492148) (omega arith) in
    count_back d h (P (day_number_of d +ℤ pos 492148)) (omega arith)

-- from 1-1-1 on
pub number_of_date : (z : ℤ) → le_z (negsuc 492147) z ≡ true → day_number_of (date_of_day_of z) ≡ z
unfolding date_of_day_of
number_of_date z h =
    let l = le_yes (negsuc 492147) z h in
    let s = sum z (pos 492148) in
    let n = not_negative (z +ℤ pos 492148) (omega arith) in
    numbered (date_at_of (P (z +ℤ pos 492148))) z (omega (arith, (count_forth (P (z +ℤ pos 492148))).number))

pub date_of_day_exists : (z : ℤ) → exists_of (date_of_day_of z) ≡ true
unfolding date_of_day_of
date_of_day_exists z = (count_forth (P (z +ℤ pos 492148))).there
