-- The sum fits because the days of a month are few.
use Rattle.calendar.proofs.MonthTables.{year_short}
use Rattle.prelude.proofs.Logic.{ap, ◌∙◌, sym, Bool, arith}
use Rattle.calendar.specs.Gregorian.{leap_of}
use Rattle.calendar.specs.Days.{days_before_of, ordinal_of}
use Rattle.calendar.proofs.Existing.{exists_yes, month_of_date}
use Rattle.calendar.proofs.dates.Date.ordinal.Goals as goal

pub overflow_add-result : goal.overflow_add-result
overflow_add-result c =
    let d = c.args.self in
    let x = exists_yes d (sym c.exists.ensures ∙ c.if-not-exists.false) in
    let m = month_of_date d x in
    let e = c.days_before.ensures ∙ ap (λ (b : Bool). days_before_of b d.month) c.is_leap_year.ensures in
    omega (arith, year_short (leap_of d.year))

pub returns-then-not-exists : goal.returns-then-not-exists
unfolding ordinal_of
returns-then-not-exists c = simp (sym c.exists.ensures, c.if-not-exists.true)

pub returns : goal.returns
unfolding ordinal_of
returns c = simp (sym c.days_before.ensures, sym c.is_leap_year.ensures, sym c.exists.ensures, c.if-not-exists.false)
