-- A date that does not exist is every row's; a day up to the 28th is in the month of the first row; all others are found by their number.
use Rattle.prelude.proofs.Logic.{sym, ap, ◌∙◌, arith, rules, w64, SFits}
use Rattle.calendar.specs.Answers.{from_of, of_day_of}
use Rattle.calendar.proofs.ByMonth.{from_none, row_early}
use Rattle.calendar.proofs.Machine.{row_fits, row_read}
use Rattle.calendar.proofs.dates.Date.row.Goals as goal

pub returns-then-not-exists : goal.returns-then-not-exists
returns-then-not-exists c = from_none _ _ (sym c.exists.ensures ∙ c.if-not-exists.true)

pub returns-then-row-self : goal.returns-then-row-self
returns-then-row-self c =
    let h = sym c.exists.ensures ∙ c.if-not-exists.false in
    c.new.ensures ∙ row_early _ h (search rules) _ (omega (arith, c.if-row-self.true, c.if-self-le-SHORTEST_MONTH.true))

pub overflow_add-day_number : goal.overflow_add-day_number
overflow_add-day_number c = row_fits _ (search rules) _ (search rules) c.day_number.ensures c.args.row (search rules)

pub returns-else-self-le-SHORTEST_MONTH : goal.returns-else-self-le-SHORTEST_MONTH
unfolding from_of
returns-else-self-le-SHORTEST_MONTH c =
    let h = sym c.exists.ensures ∙ c.if-not-exists.false in
    let f : SFits w64 c.day_number.result = search rules in
    rw (h, c.of_day.ensures) (ap of_day_of (row_read _ (search rules) _ f c.day_number.ensures _ (search rules)))
