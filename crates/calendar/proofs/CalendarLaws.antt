-- The laws of the calendar: the formulas of Days give the calendar of Gregorian, in every year. Assumes nothing.
-- MonthTables' before_january, before_next and before_december say that the rows are the running sums of the months' lengths.
use Rattle.prelude.proofs.Logic.{◌≡◌, refl, sym, ap, ◌∙◌, true, ℕ, ◌+◌, ◌%◌, ◌≤◌, arith, lit<, ℤ, pos, negsuc, ◌+ℤ◌, +ℤ_idr, le_z}
use Rattle.integers.proofs.Integers.{P, N, same, not_negative, sum, difference, le_yes, to_le, floored}
use Rattle.calendar.specs.Gregorian.{date_of, leap_of, exists_of, day_after_of, day_before_of}
use Rattle.calendar.specs.Days.{days_in_year_of, ordinal_of, days_before_year_of, day_number_of, date_at_of, date_of_day_of, weekday_of}
use Rattle.calendar.specs.declared.dates.Date.{Date}
use Rattle.calendar.proofs.MonthTables.{before_january, before_december}
use Rattle.calendar.proofs.YearSteps.{year_zero, year_step, year_mono}
use Rattle.calendar.proofs.Existing.{ordinal_is, ordinal_within, count, count_back, count_forth, count_injective}
use Rattle.calendar.proofs.Neighbours.{after, before, new_year, year_end}

-- ---- days of the year
pub ordinal_first : (y : ℕ) → ordinal_of (date_of y 1 1) ≡ 1
ordinal_first y = omega (arith, ordinal_is (date_of y 1 1) (new_year y), before_january (leap_of y))

pub ordinal_last : (y : ℕ) → ordinal_of (date_of y 12 31) ≡ days_in_year_of y
unfolding days_in_year_of
ordinal_last y = omega (arith, ordinal_is (date_of y 12 31) (year_end y), before_december (leap_of y))

pub ordinal_next : (d : Date) → exists_of d ≡ true → (day_after_of d).year ≡ d.year → ordinal_of (day_after_of d) ≡ ordinal_of d + 1
ordinal_next d h e = let f = after d h in omega (arith, ap days_before_year_of e)

-- ---- day numbers
pub day_zero : day_number_of (date_of 1970 1 1) ≡ pos 0
unfolding day_number_of days_before_year_of
day_zero = rw (ordinal_is (date_of 1970 1 1) (new_year 1970), before_january) refl

-- d's count is the number of its day plus 719529
balance : (d : Date) → P (day_number_of d) + 719529 ≡ N (day_number_of d) + count d
unfolding day_number_of
balance d = let s = difference (pos (count d)) (pos 719529) in omega (arith, s.0, s.1)

numbered : (d : Date) (z : ℤ) → P z + 719529 ≡ N z + count d → day_number_of d ≡ z
numbered d z h = let b = balance d in same (day_number_of d) z (omega arith)

-- a date whose count is k more has a number that is k more
pub later : (d e : Date) (k : ℕ) → count e ≡ count d + k → day_number_of e ≡ day_number_of d +ℤ pos k
later d e k h = numbered e (day_number_of d +ℤ pos k) (omega (arith, balance d, sum (day_number_of d) (pos k)))

pub day_after : (d : Date) → exists_of d ≡ true → day_number_of (day_after_of d) ≡ day_number_of d +ℤ pos 1
day_after d h = later d (day_after_of d) 1 (after d h).number

pub day_after_exists : (d : Date) → exists_of d ≡ true → exists_of (day_after_of d) ≡ true
day_after_exists d h = (after d h).there

-- ---- the day before and the day after are inverses; only 0000-01-01 has no day before
pub day_before_exists : (d : Date) → exists_of d ≡ true → (d ≡ date_of 0 1 1 → ⊥) → exists_of (day_before_of d) ≡ true
day_before_exists d h n = (before d h n).there

pub after_before : (d : Date) → exists_of d ≡ true → (d ≡ date_of 0 1 1 → ⊥) → day_after_of (day_before_of d) ≡ d
after_before d h n =
    let b = before d h n in let a = after (day_before_of d) b.there in let i = b.next in
    count_injective (day_after_of (day_before_of d)) d a.there h (omega arith)

pub before_after : (d : Date) → exists_of d ≡ true → day_before_of (day_after_of d) ≡ d
before_after d h =
    let a = after d h in let b = before (day_after_of d) a.there not_first in let i = b.next in
    count_injective (day_before_of (day_after_of d)) d b.there h (omega arith)
  where
    not_first : day_after_of d ≡ date_of 0 1 1 → ⊥
    not_first e =
        let a = after d h in let o = ordinal_within d h in let c : count (day_after_of d) ≡ count (date_of 0 1 1) = ap count e in
        omega (arith, year_zero, ordinal_first 0)

-- ---- from a date to the number of its day and back
pub date_of_number : (d : Date) → exists_of d ≡ true → date_of_day_of (day_number_of d) ≡ d
unfolding date_of_day_of
date_of_number d h =
    let o = ordinal_within d h in let b = balance d in let s = sum (day_number_of d) (pos 719528) in
    let n = not_negative (day_number_of d +ℤ pos 719528) (omega arith) in
    count_back d h (P (day_number_of d +ℤ pos 719528)) (omega arith)

-- from 0000-01-01 on
pub number_of_date : (z : ℤ) → le_z (negsuc 719527) z ≡ true → day_number_of (date_of_day_of z) ≡ z
unfolding date_of_day_of
number_of_date z h =
    let l = le_yes (negsuc 719527) z h in let s = sum z (pos 719528) in let n = not_negative (z +ℤ pos 719528) (omega arith) in
    numbered (date_at_of (P (z +ℤ pos 719528))) z (omega (arith, count_forth (P (z +ℤ pos 719528))))

pub date_of_day_exists : (z : ℤ) → exists_of (date_of_day_of z) ≡ true
unfolding date_of_day_of
date_of_day_exists z = (count_forth (P (z +ℤ pos 719528))).there

-- ---- rows of a timetable: the first is the date itself, and each is the day after the one before
pub row_first : (d : Date) → exists_of d ≡ true → date_of_day_of (day_number_of d +ℤ pos 0) ≡ d
row_first d h = ap date_of_day_of (+ℤ_idr (day_number_of d)) ∙ date_of_number d h

pub row_next : (d : Date) (k : ℕ) → exists_of d ≡ true
    → date_of_day_of (day_number_of d +ℤ pos (k + 1)) ≡ day_after_of (date_of_day_of (day_number_of d +ℤ pos k))
row_next d k h =
    let z = day_number_of d in let e = date_of_day_of (z +ℤ pos k) in let t = date_of_day_exists (z +ℤ pos k) in
    let o = ordinal_within d h in let b = balance d in let s = sum z (pos k) in let r = sum z (pos (k + 1)) in
    let i = sum (z +ℤ pos k) (pos 1) in
    let a : z +ℤ pos (k + 1) ≡ (z +ℤ pos k) +ℤ pos 1 = same (z +ℤ pos (k + 1)) ((z +ℤ pos k) +ℤ pos 1) (omega arith) in
    let n : day_number_of e ≡ z +ℤ pos k = number_of_date (z +ℤ pos k) (to_le (negsuc 719527) (z +ℤ pos k) (omega arith)) in
    ap date_of_day_of (a ∙ ap (λ (x : ℤ). x +ℤ pos 1) (sym n) ∙ sym (day_after e t)) ∙ date_of_number (day_after_of e) (day_after_exists e t)

-- ---- days of the week
pub weekday_zero : weekday_of (pos 0) ≡ 4
unfolding weekday_of
weekday_zero = refl

pub weekday_next : (z : ℤ) → weekday_of (z +ℤ pos 1) ≡ (weekday_of z + 1) % 7
unfolding weekday_of
weekday_next z = omega (arith, floored z 7 (lit< tt), floored (z +ℤ pos 1) 7 (lit< tt), sum z (pos 1))

ends : (days_before_year_of 1899 ≡ 693596) × (days_before_year_of 2201 ≡ 803899)
unfolding days_before_year_of
ends = (refl, refl)

-- ---- the years that an order reaches: 1899-01-01 is day -25932, and 2200-12-31 day 84370
pub days_between : (d : Date) → exists_of d ≡ true → 1899 ≤ d.year → d.year ≤ 2200 →
    (le_z (negsuc 25931) (day_number_of d) ≡ true) × (le_z (day_number_of d) (pos 84370) ≡ true)
days_between d h p q =
    let o = ordinal_within d h in let b = balance d in let s = year_step d.year in let i = year_mono 1899 d.year p in
    let j = year_mono (d.year + 1) 2201 (omega arith) in let k = ends in
    (to_le (negsuc 25931) (day_number_of d) (omega (arith, k.0)), to_le (day_number_of d) (pos 84370) (omega (arith, k.1)))
