-- The days before and after a date, and the dates of rows, while a u32 holds every year. Assumes nothing.
use Rattle.prelude.proofs.Logic.{◌≡◌, sym, ap, subst, ◌∙◌, true, ℕ, ◌+◌, ◌≤◌, ◌<◌, arith, leb, ltb, pos, ◌+ℤ◌, le-leb, cases, either}
use Rattle.calendar.specs.Answers.{held_of, from_of, tomorrow_of, yesterday_of, row_date_of}
use Rattle.calendar.specs.Days.{day_number_of, date_of_day_of}
use Rattle.calendar.specs.Gregorian.{exists_of, days_in_month_of, day_after_of, day_before_of}
use Rattle.calendar.specs.declared.dates.Date.{Date}
use Rattle.calendar.proofs.CalendarLaws.{before_after, day_after_exists, row_first, row_next, date_of_day_exists}

-- the day after a date is in the same year or in the next
pub year_after : (d : Date) → (d.year ≤ (day_after_of d).year) × ((day_after_of d).year ≤ d.year + 1)
unfolding day_after_of
year_after d =
    either near (ltb d.day (days_in_month_of d.year d.month)) (omega arith, omega arith)
    (either near (ltb d.month 12) (omega arith, omega arith) (omega arith, omega arith))
  where
    near : Date → Type 0
    near e = (d.year ≤ e.year) × (e.year ≤ d.year + 1)

pub from_is : (d e : Date) → exists_of d ≡ true → e.year ≤ 4294967295 → from_of d e ≡ e
unfolding from_of held_of
from_is d e h l = rw (h, le-leb e.year 4294967295 l)

module _ (d : Date) (h : exists_of d ≡ true) (l : d.year + 1 ≤ 4294967295) where
  pub tomorrow-is : tomorrow_of d ≡ day_after_of d
  tomorrow-is = let y = year_after d in from_is d (day_after_of d) h (omega arith)

  pub tomorrow-exists : exists_of (tomorrow_of d) ≡ true
  tomorrow-exists = ap exists_of tomorrow-is ∙ day_after_exists d h

  -- the day before the next one is the day itself
  pub back : yesterday_of (tomorrow_of d) ≡ d
  back =
      let e : day_before_of (tomorrow_of d) ≡ d = ap day_before_of tomorrow-is ∙ before_after d h in
      from_is (tomorrow_of d) (day_before_of (tomorrow_of d)) tomorrow-exists (subst (λ (x : Date). x.year ≤ 4294967295) (sym e) (omega arith))
      ∙ e

-- row k has the date k days later, and row k + 1 the day after it
module _ (d : Date) (h : exists_of d ≡ true) where
  pub row_is : (k : ℕ) → (date_of_day_of (day_number_of d +ℤ pos k)).year ≤ 4294967295 → row_date_of d k ≡ date_of_day_of (day_number_of d +ℤ pos k)
  row_is k l = from_is d (date_of_day_of (day_number_of d +ℤ pos k)) h l

  pub row-tomorrow : (k : ℕ) → (date_of_day_of (day_number_of d +ℤ pos k)).year + 1 ≤ 4294967295
      → row_date_of d (k + 1) ≡ tomorrow_of (row_date_of d k)
  row-tomorrow k l =
      let e : Date = date_of_day_of (day_number_of d +ℤ pos k) in
      let n : date_of_day_of (day_number_of d +ℤ pos (k + 1)) ≡ day_after_of e = row_next d k h in let y = (year_after e).1 in
      row_is (k + 1) (subst (λ (x : Date). x.year ≤ 4294967295) (sym n) (omega arith))
      ∙ n
      ∙ sym (tomorrow-is e (date_of_day_exists (day_number_of d +ℤ pos k)) l)
      ∙ ap tomorrow_of (sym (row_is k (omega arith)))

  -- a u32 holds the year of this row and the year after it
  row-held : (k : ℕ) → (row_date_of d k).year < 4294967295 → (date_of_day_of (day_number_of d +ℤ pos k)).year + 1 ≤ 4294967295
  unfolding from_of held_of
  row-held k l =
      let e : Date = date_of_day_of (day_number_of d +ℤ pos k) in
      let m = rw h at l in
      cases (leb e.year 4294967295) (λ t. let y = rw t at m in omega arith) (λ t. let y = rw t at m in absurd (omega arith))

  pub row_zero : d.year ≤ 4294967295 → row_date_of d 0 ≡ d
  row_zero l = let f = row_first d h in row_is 0 (subst (λ (x : Date). x.year ≤ 4294967295) (sym f) l) ∙ f

  pub row-after : (k : ℕ) → (row_date_of d k).year < 4294967295 → row_date_of d (k + 1) ≡ day_after_of (row_date_of d k)
  row-after k l =
      let e : Date = date_of_day_of (day_number_of d +ℤ pos k) in
      let n : date_of_day_of (day_number_of d +ℤ pos (k + 1)) ≡ day_after_of e = row_next d k h in
      let y = (year_after e).1 in
      let held = row-held k l in
      row_is (k + 1) (subst (λ (x : Date). x.year ≤ 4294967295) (sym n) (omega arith)) ∙ n ∙ ap day_after_of (sym (row_is k (omega arith)))
