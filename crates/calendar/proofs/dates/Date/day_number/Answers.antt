use Rattle.prelude.proofs.Logic.{arith, rules}
use Rattle.calendar.proofs.Machine.{count_fits, number_fits, number_is}
use Rattle.calendar.proofs.dates.Date.day_number.Goals as goal

pub overflow_add-days : goal.overflow_add-days
overflow_add-days c =
    let r = count_fits c.args.self (search rules) _ _ c.days_before_year.ensures
    c.ordinal.ensures in
    omega arith

pub overflow_cast-result : goal.overflow_cast-result
overflow_cast-result c =
    let r = count_fits c.args.self (search rules) _ _ c.days_before_year.ensures
    c.ordinal.ensures in
    record { sfits = omega arith }

pub overflow_sub-result : goal.overflow_sub-result
overflow_sub-result c =
    number_fits c.args.self (search rules) _ _ c.days_before_year.ensures
    c.ordinal.ensures

pub returns : goal.returns
returns c = number_is c.args.self (search rules) _ _ c.days_before_year.ensures c.ordinal.ensures
