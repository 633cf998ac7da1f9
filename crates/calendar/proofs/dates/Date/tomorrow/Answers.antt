-- The cases of `tomorrow_of` in the code's order: a date that does not exist, one within its month, the last of a month, of a year, of all
-- years.
use Rattle.prelude.proofs.Logic.{◌≡◌, sym, ap, subst, ◌∙◌, Bool, true, false, true≢false, ℕ, ◌≤◌, ◌<◌, ltb, lt-ltb, ltb-true, ltb-false, rules}
use Rattle.calendar.specs.Gregorian.{length_of, days_in_month_of}
use Rattle.calendar.proofs.ByMonth.{from_none, day-later, day-later-early, month-later, year-later, last-of-all}
use Rattle.calendar.proofs.dates.Date.tomorrow.Goals as goal
use Rattle.calendar.proofs.dates.Date.tomorrow.Goals.{Else-day-month_days, then-day-lt-SHORTEST_MONTH, else-day-lt-SHORTEST_MONTH}

-- a date past the two tests of its day is its month's last
last : (c : Else-day-month_days) → let d = c.args.self in days_in_month_of d.year d.month ≤ d.day
last c =
    let d = c.args.self in
    elim c.if-day-lt-SHORTEST_MONTH.branch [
      | then-day-lt-SHORTEST_MONTH w ↦ absurd (true≢false (sym (lt-ltb _ _ w.if-day-lt-SHORTEST_MONTH.true) ∙ sym w.value-is ∙ c.if-day-month_days.false))
      | else-day-lt-SHORTEST_MONTH w ↦
          let days = w.month_days.ensures ∙ ap (λ (b : Bool). length_of b d.month) w.is_leap_year.ensures in
          let t : ltb d.day w.month_days.result ≡ false = sym w.value-is ∙ c.if-day-month_days.false in
          subst (λ (n : ℕ). n ≤ d.day) days (ltb-false _ _ t)
    ]

pub returns-then-not-exists : goal.returns-then-not-exists
returns-then-not-exists c = from_none _ _ (sym c.exists.ensures ∙ c.if-not-exists.true)

pub returns-then-day-month_days : goal.returns-then-day-month_days
returns-then-day-month_days c =
    let d = c.args.self in
    let h = sym c.exists.ensures ∙ c.if-not-exists.false in
    c.new.ensures ∙ elim c.if-day-lt-SHORTEST_MONTH.branch [
      | then-day-lt-SHORTEST_MONTH w ↦ day-later-early _ h (search rules) w.if-day-lt-SHORTEST_MONTH.true
      | else-day-lt-SHORTEST_MONTH w ↦
          let days = w.month_days.ensures ∙ ap (λ (b : Bool). length_of b d.month) w.is_leap_year.ensures in
          let t : ltb d.day w.month_days.result ≡ true = sym w.value-is ∙ c.if-day-month_days.true in
          day-later _ h (search rules) (subst (λ (n : ℕ). d.day < n) days (ltb-true _ _ t))
    ]

pub returns-then-month-lt12 : goal.returns-then-month-lt12
returns-then-month-lt12 c =
    let h = sym c.exists.ensures ∙ c.if-not-exists.false in
    c.new-then-month-lt12.ensures ∙ month-later _ h (search rules) (last c.before.before) c.if-month-lt12.true

pub returns-then-year-lt4294967295 : goal.returns-then-year-lt4294967295
returns-then-year-lt4294967295 c =
    let h = sym c.exists.ensures ∙ c.if-not-exists.false in
    c.new-then-year-lt4294967295.ensures
    ∙ year-later _ h (search rules) (last c.before.before.before) c.if-month-lt12.false c.if-year-lt4294967295.true

pub returns-else-year-lt4294967295 : goal.returns-else-year-lt4294967295
returns-else-year-lt4294967295 c =
    let h = sym c.exists.ensures ∙ c.if-not-exists.false in
    last-of-all _ h (search rules) (last c.before.before) c.if-month-lt12.false c.if-year-lt4294967295.false
