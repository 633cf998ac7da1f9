-- Meeus's formula counts the days of the calendar, in every year from 1 on. Assumes nothing.
use Rattle.prelude.proofs.Logic.{◌≡◌, refl, ap, Bool, true, false, cond, not, ◌||◌, ℕ, ◌+◌, ◌-◌, ◌*◌, ◌/◌, ◌≤◌, ◌<◌, arith, eqb, ltb}
use Rattle.prelude.proofs.Logic.{eqb→eq, lt→ltb, pos, ◌+ℤ◌, ◌-ℤ◌, ◌*ℤ◌, ltb-true, ltb-false, cases}
use Rattle.integers.proofs.Integers.{same, sum, difference, times}
use Rattle.calendar.proofs.Calendar.{leap_of, exists_of, days_before_of, days_in_year_of, days_before_year_of, day_number_of, tested, when, year_step}
use Rattle.calendar.proofs.Calendar.{exists_yes, month_of_date, ordinal_is, count, year_after}
use Rattle.calendar.proofs.Neighbours.{after}
use Rattle.calendar.specs.Gregorian.{day_after_of}
use Rattle.calendar.specs.declared.dates.Date.{Date}
use Rattle.julian.specs.Meeus.{year_days_of, month_term_of, meeus_of}

-- ---- the years: Y's term and B, from the days before the next year
years : (y : ℕ) → year_days_of y + 2 + y / 100 / 4 - y / 100 ≡ days_before_year_of (y + 1) + 1722155
unfolding days_before_year_of
years y =
    let a : year_days_of y ≡ 365 * y + y / 4 + 1722519 = omega arith in
    let b : y / 100 / 4 ≡ y / 400 = omega arith in
    let c : (y + 1 + 3) / 4 ≡ y / 4 + 1 = omega arith in
    let d : (y + 1 + 99) / 100 ≡ y / 100 + 1 = omega arith in
    let e : (y + 1 + 399) / 400 ≡ y / 400 + 1 = omega arith in
    let l : y / 100 ≤ y / 4 = omega arith in
    rw (a, b, c, d, e) (whole (y / 4) (y / 100) (y / 400) l)
  where
    whole : (i j k : ℕ) → j ≤ i → 365 * y + i + 1722519 + 2 + k - j ≡ 365 * (y + 1) + (i + 1) - (j + 1) + (k + 1) + 1722155
    whole i j k h = omega arith

-- ---- the months: M's term, from the days before the month
late_test : Bool → ℕ → Bool
late_test leap m = not (ltb 2 m) || eqb (month_term_of m + cond leap 1 0) (days_before_of leap m + 63)

early_test : Bool → ℕ → Bool
early_test leap m = not (ltb 0 m) || eqb (month_term_of (m + 12)) (days_before_of leap m + 428)

late : (leap : Bool) (m : ℕ) → 2 < m → m < 13 → month_term_of m + cond leap 1 0 ≡ days_before_of leap m + 63
unfolding late_test days_before_of
late leap m p q = eqb→eq _ _ (when (ltb 2 m) _ (tested late_test 13 tt leap m q) (lt→ltb 2 m p))

early : (leap : Bool) (m : ℕ) → 0 < m → m < 3 → month_term_of (m + 12) ≡ days_before_of leap m + 428
unfolding early_test days_before_of
early leap m p q = eqb→eq _ _ (when (ltb 0 m) _ (tested early_test 3 tt leap m q) (lt→ltb 0 m p))

year_days_lem : (leap : Bool) → cond leap 366 365 ≡ 365 + cond leap 1 0
year_days_lem true = refl
year_days_lem false = refl

-- ---- the day
-- u and v are the terms of the year and the month, a the century, c a quarter of it, w the days before the next year
gathered : (u v a c day w n : ℕ) → u + 2 + c - a ≡ w + 1722155 → w + v + day ≡ n + 428
    → 2 * (u + v + day + 2 + c - a) - 3049 ≡ 2 * n + 3442117
gathered u v a c day w n p q = omega arith

counted : (d : Date) → exists_of d ≡ true → 1 ≤ d.year → meeus_of d ≡ 2 * count d + 3442117
unfolding meeus_of
counted d h l =
    let y = d.year in let i = exists_yes d h in let m = month_of_date d i in
    cases (ltb 2 d.month)
    (λ e. rw e
    (gathered (year_days_of y) (month_term_of d.month) (y / 100) (y / 100 / 4) d.day (days_before_year_of (y + 1)) (count d) (years y)
    (late-days (month_term_of d.month) (late (leap_of y) d.month (ltb-true 2 d.month e) (omega arith)))))
    (λ e. let f = ltb-false 2 d.month e in
    rw e (gathered (year_days_of (y - 1)) (month_term_of (d.month + 12)) ((y - 1) / 100) ((y - 1) / 100 / 4) d.day
    (days_before_year_of (y - 1 + 1))
    (count d) (years (y - 1))
    (early-days (month_term_of (d.month + 12)) (early (leap_of y) d.month m.first (omega arith)))))
  where
    late-days : (v : ℕ) → v + cond (leap_of d.year) 1 0 ≡ days_before_of (leap_of d.year) d.month + 63 →
        days_before_year_of (d.year + 1) + v + d.day ≡ count d + 428
    late-days v k = unfold days_in_year_of in omega (arith, year_step d.year, ordinal_is d h, year_days_lem (leap_of d.year))

    early-days : (v : ℕ) → v ≡ days_before_of (leap_of d.year) d.month + 428
        → days_before_year_of (d.year - 1 + 1) + v + d.day ≡ count d + 428
    early-days v k = let z : d.year - 1 + 1 ≡ d.year = omega arith in omega (arith, ordinal_is d h, ap days_before_year_of z)

-- so Meeus's number of the next day is one day more, which is two halves
pub meeus_after : (d : Date) → exists_of d ≡ true → 1 ≤ d.year → meeus_of (day_after_of d) ≡ meeus_of d + 2
meeus_after d h l =
    let a = after d h in
    let y = year_after d in
    omega (arith, counted d h l, counted (day_after_of d) a.there (omega arith), a.number)

-- twice the Julian Day is twice the number of the day plus 4881175: day 0 begins at 2440587.5
pub meeus_number : (d : Date) → exists_of d ≡ true → 1 ≤ d.year → pos (meeus_of d) ≡ day_number_of d *ℤ pos 2 +ℤ pos 4881175
unfolding day_number_of
meeus_number d h l =
    let c = counted d h l in
    let n = pos (count d) -ℤ pos 719529 in
    let b = difference (pos (count d)) (pos 719529) in
    same (pos (meeus_of d)) (n *ℤ pos 2 +ℤ pos 4881175) (omega (arith, times n 2, sum (n *ℤ pos 2) (pos 4881175), b.0, b.1))
