-- By the calendar's rule the days after and before a date that exists exist too. Their counts are one more and one less. Assumes nothing.
use Rattle.prelude.proofs.Logic.{◌≡◌, refl, sym, ap, ◌∙◌, subst, true, ℕ, ◌+◌, ◌-◌, ◌≤◌, ◌<◌, arith, ltb, ltb-true, ltb-false, cases}
use Rattle.calendar.specs.Gregorian.{date_of, leap_of, length_of, days_in_month_of, exists_of, day_after_of, day_before_of}
use Rattle.calendar.specs.Days.{days_in_year_of}
use Rattle.calendar.specs.declared.dates.Date.{Date}
use Rattle.calendar.proofs.MonthTables.{before_next, before_january, before_december, length_january, length_december, length_least}
use Rattle.calendar.proofs.YearSteps.{year_step}
use Rattle.calendar.proofs.Existing.{exists_yes, to_exists, month_of_date, ordinal_is, count}

-- e exists, and its count is one more than d's
pub record Follows (d e : Date) : Type 0 where
  pub there : exists_of e ≡ true
  pub number : count e ≡ count d + 1

-- from the last day of a month to the first of the next, in one year
next_month : (y m : ℕ) → 0 < m → m < 12 → (d : ℕ) → d ≡ days_in_month_of y m → exists_of (date_of y m d) ≡ true
    → Follows (date_of y m d) (date_of y (m + 1) 1)
next_month y m p q d e h =
    let l = length_least (leap_of y) m q in
    let t = to_exists (date_of y (m + 1) 1) (record { from = omega arith; to = omega arith }) in
    record { there = t; number = omega (arith, before_next (leap_of y) m q, ordinal_is (date_of y m d) h, ordinal_is (date_of y (m + 1) 1) t) }

pub new_year : (y : ℕ) → exists_of (date_of y 1 1) ≡ true
new_year y = to_exists (date_of y 1 1) (record { from = omega arith; to = omega (arith, length_january (leap_of y)) })

pub year_end : (y : ℕ) → exists_of (date_of y 12 31) ≡ true
year_end y = to_exists (date_of y 12 31) (record { from = omega arith; to = omega (arith, length_december (leap_of y)) })

next_year : (y : ℕ) → Follows (date_of y 12 31) (date_of (y + 1) 1 1)
unfolding days_in_year_of
next_year y =
    record {
      there = new_year (y + 1);
      number =
          omega (
            arith,
            ordinal_is (date_of y 12 31) (year_end y),
            ordinal_is (date_of (y + 1) 1 1) (new_year (y + 1)),
            year_step y,
            before_december (leap_of y),
            before_january (leap_of (y + 1)),
          );
    }

pub after : (d : Date) → exists_of d ≡ true → Follows d (day_after_of d)
unfolding day_after_of
after d h =
    let days = days_in_month_of d.year d.month in let m = month_of_date d (exists_yes d h) in let x = exists_yes d h in
    cases (ltb d.day days)
    (λ p. let e = date_of d.year d.month (d.day + 1) in let l = ltb-true d.day days p in
    let t = to_exists e (record { from = omega arith; to = omega arith }) in
    rw p (record { there = t; number = omega (arith, ordinal_is d h, ordinal_is e t) }))
    (λ p. let l = ltb-false d.day days p in
    cases (ltb d.month 12)
    (λ q. rw (p, q) (next_month d.year d.month m.first (ltb-true d.month 12 q) d.day (omega arith) h))
    (λ q. let m12 : d.month ≡ 12 = omega (arith, ltb-false d.month 12 q) in
    let d31 : d.day ≡ 31 = omega (arith, length_december (leap_of d.year), ap (length_of (leap_of d.year)) m12) in
    let e : date_of d.year 12 31 ≡ d = rw (m12, d31) in
    rw (p, q) (subst (λ (f : Date). Follows f (date_of (d.year + 1) 1 1)) e (next_year d.year))))

-- d exists and e follows it
pub record Precedes (d e : Date) : Type 0 where
  pub there : exists_of d ≡ true
  pub next : Follows d e

pub before : (d : Date) → exists_of d ≡ true → (d ≡ date_of 0 1 1 → ⊥) → Precedes (day_before_of d) d
unfolding day_before_of
before d h n =
    let x = exists_yes d h in let m = month_of_date d x in
    cases (ltb 1 d.day)
    (λ p. let e = date_of d.year d.month (d.day - 1) in let l = ltb-true 1 d.day p in
    let t = to_exists e (record { from = omega arith; to = omega arith }) in
    rw p (record { there = t; next = record { there = h; number = omega (arith, ordinal_is d h, ordinal_is e t) } }))
    (λ p. let j : 1 ≡ d.day = omega (arith, ltb-false 1 d.day p) in
    cases (ltb 1 d.month)
    (λ q. let l = ltb-true 1 d.month q in
    let days = days_in_month_of d.year (d.month - 1) in let e = date_of d.year (d.month - 1) days in
    let k : d.month - 2 + 1 ≡ d.month - 1 = omega arith in
    let least = length_least (leap_of d.year) (d.month - 2) (omega arith) in
    let s : 28 ≤ days = subst (λ (i : ℕ). 28 ≤ days_in_month_of d.year i) k least in
    let t = to_exists e (record { from = omega (arith, s); to = omega arith }) in let i : d.month - 1 + 1 ≡ d.month = omega arith in
    let f : date_of d.year (d.month - 1 + 1) 1 ≡ d = rw (i, j) in
    rw (p, q) (record {
      there = t;
      next = subst (λ (g : Date). Follows e g) f (next_month d.year (d.month - 1) (omega arith) (omega arith) days refl t);
    }))
    (λ q. let i : 1 ≡ d.month = omega (arith, ltb-false 1 d.month q) in
    cases (ltb 0 d.year)
    (λ r. let l = ltb-true 0 d.year r in let y : d.year - 1 + 1 ≡ d.year = omega arith in
    let f : date_of (d.year - 1 + 1) 1 1 ≡ d = ap (λ (z : ℕ). date_of z 1 1) y ∙ ap (λ (z : ℕ). date_of d.year z 1) i
    ∙ ap (date_of d.year d.month) j in
    rw (p, q, r) (record {
      there = year_end (d.year - 1);
      next = subst (λ (g : Date). Follows (date_of (d.year - 1) 12 31) g) f (next_year (d.year - 1));
    }))
    (λ r. let y : d.year ≡ 0 = omega (arith, ltb-false 0 d.year r) in
    absurd (n (ap (λ (z : ℕ). date_of z d.month d.day) y ∙ ap (λ (z : ℕ). date_of 0 z d.day) (sym i) ∙ ap (date_of 0 1) (sym j))))))
