use Rattle.prelude.proofs.Logic.{sym, ap, subst, ◌∙◌, ℕ, ◌≤◌}
use Rattle.calendar.proofs.MonthTables.{month_after}
use Rattle.calendar.specs.Days.{days_before_of, of_ordinal_of}
use Rattle.calendar.proofs.dates.of_ordinal.Goals as goal

pub overflow_sub-result : goal.overflow_sub-result
unfolding of_ordinal_of
overflow_sub-result c =
    let s = c.before.before.before in
    subst (λ (k : ℕ). k ≤ s.args.ordinal) (sym (c.days_before.ensures ∙ ap (days_before_of _) c.month_of-month.ensures))
    (month_after c.is_leap_year-leap.result s.args.ordinal s.requires.1)
