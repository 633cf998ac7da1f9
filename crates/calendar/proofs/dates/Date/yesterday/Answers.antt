-- The cases of `yesterday_of` in the code's order: a date that does not exist, one within its month, the first of a month, 0000-01-01, the
-- first of a year.
use Rattle.prelude.proofs.Logic.{◌≡◌, sym, ap, ◌∙◌, Bool, ℕ, true, ◌-◌, rules}
use Rattle.calendar.specs.Gregorian.{date_of, length_of, exists_of}
use Rattle.calendar.proofs.ByMonth.{from_none, day-earlier, month-earlier, year-earlier, first-of-all}
use Rattle.calendar.proofs.dates.Date.yesterday.Goals as goal
use Rattle.calendar.proofs.dates.Date.yesterday.Goals.{Else-not-exists}

here : (e : Else-not-exists) → exists_of e.args.self ≡ true
here e = sym e.exists.ensures ∙ e.if-not-exists.false

pub returns-then-not-exists : goal.returns-then-not-exists
returns-then-not-exists c = from_none _ _ (sym c.exists.ensures ∙ c.if-not-exists.true)

pub returns-then-day-gt1 : goal.returns-then-day-gt1
returns-then-day-gt1 c = c.new.ensures ∙ day-earlier _ (here c.before.before) (search rules) c.if-day-gt1.true

pub returns-then-month-gt1 : goal.returns-then-month-gt1
returns-then-month-gt1 c =
    let third = c.before.before.before in
    let e = third.before.before in
    let d = e.args.self in
    let days = c.month_days.ensures ∙ ap (λ (b : Bool). length_of b (d.month - 1)) c.is_leap_year.ensures in
    c.new-then-month-gt1.ensures
    ∙ ap (λ (n : ℕ). date_of d.year (d.month - 1) n) days
    ∙ month-earlier d (here e) (search rules) third.if-day-gt1.false third.if-month-gt1.true

pub returns-else-year-gt0 : goal.returns-else-year-gt0
returns-else-year-gt0 c =
    let second = c.before.before in
    first-of-all _ (here second.before) (search rules) second.if-day-gt1.false c.if-month-gt1.false c.if-year-gt0.false

pub returns-then-year-gt0 : goal.returns-then-year-gt0
returns-then-year-gt0 c =
    let third = c.before.before in
    c.new-then-year-gt0.ensures
    ∙ year-earlier _ (here third.before.before) (search rules) third.if-day-gt1.false third.if-month-gt1.false c.if-year-gt0.true
