use Rattle.prelude.proofs.Logic.{arith, rules}
use Rattle.hijri.proofs.Machine.{count_fits, number_fits, number_is}
use Rattle.hijri.proofs.dates.Tabular.day_number.Goals as goal

pub overflow_cast-result : goal.overflow_cast-result
overflow_cast-result c =
    let r = count_fits c.args.self (search rules) (search rules) (search rules) _ c.count.ensures in
    record { sfits = omega arith }

pub overflow_sub-result : goal.overflow_sub-result
overflow_sub-result c = number_fits c.args.self (search rules) (search rules) (search rules) _ c.count.ensures

pub returns : goal.returns
returns c = number_is c.args.self (search rules) (search rules) (search rules) _ c.count.ensures
