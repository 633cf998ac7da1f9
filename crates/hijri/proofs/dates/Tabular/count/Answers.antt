use Rattle.prelude.proofs.Logic.{arith, rules}
use Rattle.hijri.specs.Days.{count_of}
use Rattle.hijri.proofs.Existing.{count_is}
use Rattle.hijri.proofs.Machine.{count_room}
use Rattle.hijri.proofs.dates.Tabular.count.Goals as goal

pub overflow_add-result : goal.overflow_add-result
unfolding count_of
overflow_add-result c =
    let d = c.args.self in let e = c.year_start.ensures in
    omega (arith, count_is d, count_room d (search rules) (search rules) (search rules), c.month_start.ensures)

pub overflow_add-result-2 : goal.overflow_add-result-2
unfolding count_of
overflow_add-result-2 c =
    let d = c.args.self in let e = c.year_start.ensures in
    omega (arith, count_is d, count_room d (search rules) (search rules) (search rules), c.month_start.ensures)

pub returns : goal.returns
unfolding count_of
returns c = cc
