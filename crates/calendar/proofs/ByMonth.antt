-- The code's steps from a date to the day after it, to the day before it and to a later day of its month are the calendar's rule. Assumes
-- nothing.
use Rattle.prelude.proofs.Logic.{◌≡◌, sym, ap, ◌∙◌, subst, true, false, ℕ, ◌+◌, ◌-◌, ◌≤◌, ◌<◌, arith, pos, ◌+ℤ◌, lt-ltb, le-ltb, lt-leb}
use Rattle.calendar.specs.Gregorian.{date_of, leap_of, length_of, days_in_month_of, exists_of, day_after_of, day_before_of}
use Rattle.calendar.specs.Days.{day_number_of, date_of_day_of}
use Rattle.calendar.specs.Answers.{held_of, from_of, tomorrow_of, yesterday_of, row_date_of}
use Rattle.calendar.specs.declared.dates.Date.{Date}
use Rattle.calendar.proofs.MonthTables.{length_december, month_has_28}
use Rattle.calendar.proofs.Existing.{exists_yes, to_exists, month_of_date, ordinal_is}
use Rattle.calendar.proofs.CalendarLaws.{date_of_number, later}
use Rattle.calendar.proofs.Successors.{from_is}

-- ---- the result for a date that does not exist is the date itself
pub from_none : (d e : Date) → exists_of d ≡ false → d ≡ from_of d e
unfolding from_of
from_none d e h = rw h

-- ---- a date that exists
module _ (d : Date) (h : exists_of d ≡ true) (small : d.year ≤ 4294967295) where
  stepped : (e f : Date) → e ≡ f → e.year ≤ 4294967295 → e ≡ from_of d f
  stepped e f i l = subst (λ (x : Date). e ≡ from_of d x) i (sym (from_is d e h l))

  -- ---- tomorrow
  pub day-later : d.day < days_in_month_of d.year d.month → date_of d.year d.month (d.day + 1) ≡ tomorrow_of d
  unfolding day_after_of
  day-later l =
      stepped (date_of d.year d.month (d.day + 1)) (day_after_of d) (rw (lt-ltb d.day (days_in_month_of d.year d.month) l)) small

  -- every month has 28 days
  pub day-later-early : d.day < 28 → date_of d.year d.month (d.day + 1) ≡ tomorrow_of d
  day-later-early l =
      let m = month_of_date d (exists_yes d h) in
      let n = month_has_28 (leap_of d.year) d.month m.first m.last in
      day-later (omega arith)

  module _ (last : days_in_month_of d.year d.month ≤ d.day) where
    pub month-later : d.month < 12 → date_of d.year (d.month + 1) 1 ≡ tomorrow_of d
    unfolding day_after_of
    month-later m =
        stepped (date_of d.year (d.month + 1) 1) (day_after_of d)
        (rw (le-ltb d.day (days_in_month_of d.year d.month) last, lt-ltb d.month 12 m)) small

    over : 12 ≤ d.month → date_of (d.year + 1) 1 1 ≡ day_after_of d
    unfolding day_after_of
    over m = rw (le-ltb d.day (days_in_month_of d.year d.month) last, le-ltb d.month 12 m)

    pub year-later : 12 ≤ d.month → d.year < 4294967295 → date_of (d.year + 1) 1 1 ≡ tomorrow_of d
    year-later m n = stepped (date_of (d.year + 1) 1 1) (day_after_of d) (over m) (omega arith)

    -- the last date of the last year
    pub last-of-all : 12 ≤ d.month → 4294967295 ≤ d.year → d ≡ tomorrow_of d
    unfolding from_of held_of
    last-of-all m l =
        let y : d.year ≡ 4294967295 = omega arith in
        let x = exists_yes d h in let t = month_of_date d x in let m12 : d.month ≡ 12 = omega arith in
        let d31 : d.day ≡ 31 = let n = length_december (leap_of d.year) in let k = ap (length_of (leap_of d.year)) m12 in omega arith in
        let e : d ≡ date_of 4294967295 12 31 = rw (← y, ← m12, ← d31) in
        rw (h, ← over m, lt-leb (d.year + 1) 4294967295 (omega arith)) e

  -- ---- yesterday
  pub day-earlier : 1 < d.day → date_of d.year d.month (d.day - 1) ≡ yesterday_of d
  unfolding day_before_of
  day-earlier l = stepped (date_of d.year d.month (d.day - 1)) (day_before_of d) (rw (lt-ltb 1 d.day l)) small

  module _ (first : d.day ≤ 1) where
    pub month-earlier : 1 < d.month
        → date_of d.year (d.month - 1) (days_in_month_of d.year (d.month - 1)) ≡ yesterday_of d
    unfolding day_before_of
    month-earlier m =
        stepped (date_of d.year (d.month - 1) (days_in_month_of d.year (d.month - 1))) (day_before_of d)
        (rw (le-ltb 1 d.day first, lt-ltb 1 d.month m)) small

    pub year-earlier : d.month ≤ 1 → 0 < d.year → date_of (d.year - 1) 12 31 ≡ yesterday_of d
    unfolding day_before_of
    year-earlier m n =
        stepped (date_of (d.year - 1) 12 31) (day_before_of d)
        (rw (le-ltb 1 d.day first, le-ltb 1 d.month m, lt-ltb 0 d.year (omega arith))) (omega arith)

    -- the first date of all
    pub first-of-all : d.month ≤ 1 → d.year ≤ 0 → d ≡ yesterday_of d
    unfolding day_before_of
    first-of-all m n =
        stepped d (day_before_of d) (rw (le-ltb 1 d.day first, le-ltb 1 d.month m, le-ltb 0 d.year (omega arith))) small

  -- ---- a row of the same month
  pub row_early : (k : ℕ) → d.day + k ≤ 28 → date_of d.year d.month (d.day + k) ≡ row_date_of d k
  row_early k l =
      let x = exists_yes d h in
      let m = month_of_date d x in
      let n = month_has_28 (leap_of d.year) d.month m.first m.last in
      let e = date_of d.year d.month (d.day + k) in
      let t = to_exists e (record { from = omega arith; to = omega arith }) in
      let number = later d e k (omega (arith, ordinal_is d h, ordinal_is e t)) in
      stepped e (date_of_day_of (day_number_of d +ℤ pos k)) (sym (date_of_number e t) ∙ ap date_of_day_of number) small
