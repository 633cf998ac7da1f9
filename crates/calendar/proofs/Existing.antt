-- Dates that exist: their place in the year and in the count of days, and the way back from there. Assumes nothing.
use Rattle.prelude.proofs.Logic.{◌≡◌, refl, sym, ap, ◌∙◌, subst, true, and-eq-true_iff, ℕ, ◌+◌, ◌-◌, ◌≤◌, ◌<◌, arith, leb, lit≤, leb-true}
use Rattle.prelude.proofs.Logic.{le-leb, cases}
use Rattle.calendar.specs.Gregorian.{date_of, leap_of, days_in_month_of, exists_of}
use Rattle.calendar.specs.Days.{days_before_of, days_in_year_of, ordinal_of, of_ordinal_of, month_of, days_before_year_of, date_at_of, year_of}
use Rattle.calendar.specs.declared.dates.Date.{Date}
use Rattle.calendar.proofs.MonthTables.{year_short, Month, month, month_found, month_place}
use Rattle.calendar.proofs.YearSteps.{In, year_step, year_found, year_unique}

-- ---- what it means that a date exists
pub record Exists (d : Date) : Type 0 where
  pub from : 0 < d.day
  pub to : d.day ≤ days_in_month_of d.year d.month

pub exists_yes : (d : Date) → exists_of d ≡ true → Exists d
unfolding exists_of
exists_yes d h =
    let t = (and-eq-true_iff (leb 1 d.day) (leb d.day (days_in_month_of d.year d.month))).0 h in
    record { from = leb-true 1 d.day t.0; to = leb-true d.day (days_in_month_of d.year d.month) t.1 }

pub to_exists : (d : Date) → Exists d → exists_of d ≡ true
unfolding exists_of
to_exists d e = rw (le-leb 1 d.day e.from, le-leb d.day (days_in_month_of d.year d.month) e.to)

pub month_of_date : (d : Date) → Exists d → Month (leap_of d.year) d.month
month_of_date d e = month (leap_of d.year) d.month d.day e.from e.to

-- ---- the day of the year
pub ordinal_is : (d : Date) → exists_of d ≡ true → ordinal_of d ≡ days_before_of (leap_of d.year) d.month + d.day
unfolding ordinal_of
ordinal_is d h = rw h

pub record Ordinal (y n : ℕ) : Type 0 where
  pub from : 0 < n
  pub to : n ≤ days_in_year_of y

pub ordinal_within : (d : Date) → exists_of d ≡ true → Ordinal d.year (ordinal_of d)
unfolding days_in_year_of
ordinal_within d h =
    let e = exists_yes d h in let o = ordinal_is d h in let m = month_of_date d e in
    record { from = omega arith; to = omega arith }

pub ordinal_short : (d : Date) → ordinal_of d ≤ 366
unfolding ordinal_of
ordinal_short d =
    cases (exists_of d) (λ h. let e = exists_yes d h in let m = month_of_date d e in rw h (omega (arith, year_short (leap_of d.year))))
    (λ h. rw h (lit≤ tt))

-- a date's year and ordinal give the date back
pub ordinal_back : (d : Date) → exists_of d ≡ true → of_ordinal_of d.year (ordinal_of d) ≡ d
unfolding of_ordinal_of
ordinal_back d h =
    let e = exists_yes d h in let leap = leap_of d.year in
    let f : month_of leap (ordinal_of d) ≡ d.month = ap (month_of leap) (ordinal_is d h)
    ∙ month_found leap d.month d.day e.from e.to in
    let o = ordinal_is d h in let g : ordinal_of d - days_before_of leap d.month ≡ d.day = omega arith in
    rw (f, g)

-- and each ordinal is the ordinal of a date of its year
pub record Dated (y n : ℕ) (d : Date) : Type 0 where
  pub year : d.year ≡ y
  pub there : exists_of d ≡ true
  pub ordinal : ordinal_of d ≡ n

pub ordinal_forth : (y n : ℕ) → Ordinal y n → Dated y n (of_ordinal_of y n)
unfolding of_ordinal_of days_in_year_of
ordinal_forth y n o =
    let p = month_place (leap_of y) n o.from o.to in
    let d = date_of y (month_of (leap_of y) n) (n - days_before_of (leap_of y) (month_of (leap_of y) n)) in
    let t = to_exists d (record { from = omega arith; to = omega arith }) in let r = ordinal_is d t in
    record { year = refl; there = t; ordinal = omega arith }

-- ---- the count of days: 1 on 0000-01-01
abbrev pub count : Date → ℕ
count d = days_before_year_of d.year + ordinal_of d

in_year : (d : Date) → exists_of d ≡ true → In (count d - 1) d.year
in_year d h =
    let o = ordinal_within d h in let s = year_step d.year in
    record { from = omega arith; before = omega arith }

-- a date's count gives the date back
pub count_back : (d : Date) → exists_of d ≡ true → (n : ℕ) → n + 1 ≡ count d → date_at_of n ≡ d
unfolding date_at_of
count_back d h n e =
    let i = in_year d h in let c : n ≡ count d - 1 = omega arith in
    let y : year_of n ≡ d.year = year_unique n (year_of n) d.year (year_found n) (subst (λ (k : ℕ). In k d.year) (sym c) i) in
    let o : n + 1 - days_before_year_of d.year ≡ ordinal_of d = omega arith in
    rw (y, o) (ordinal_back d h)

pub count_injective : (d e : Date) → exists_of d ≡ true → exists_of e ≡ true → count d ≡ count e → d ≡ e
count_injective d e p q h =
    let o = ordinal_within d p in
    sym (count_back d p (count d - 1) (omega arith)) ∙ count_back e q (count d - 1) (omega arith)

-- and every number plus 1 is the count of a date
pub record Counted (n : ℕ) (d : Date) : Type 0 where
  pub there : exists_of d ≡ true
  pub number : count d ≡ n + 1

pub count_forth : (n : ℕ) → Counted n (date_at_of n)
unfolding date_at_of
count_forth n =
    let y = year_of n in let i = year_found n in let s = year_step y in let k = n + 1 - days_before_year_of y in
    let d = ordinal_forth y k (record { from = omega arith; to = omega arith }) in let e = ap days_before_year_of d.year in
    record { there = d.there; number = omega arith }
