use Rattle.prelude.proofs.Logic.{arith}
use Rattle.hijri.specs.Days.{in_year_of}
use Rattle.hijri.proofs.ByCount.{month-small, month-less}
use Rattle.hijri.proofs.dates.in_year.Goals as goal

pub month_start-requires : goal.month_start-requires
unfolding in_year_of
month_start-requires c =
    let m = month-small c.args.k c.requires c.month_of-month.result c.month_of-month.ensures in omega arith

pub overflow_sub-result : goal.overflow_sub-result
unfolding in_year_of
overflow_sub-result c =
    let s = c.before.before in
    month-less s.args.k s.requires c.month_of-month.result c.month_of-month.ensures c.month_start.result
    c.month_start.ensures

pub overflow_cast-result : goal.overflow_cast-result
unfolding in_year_of
overflow_cast-result c =
    let m = month-small c.args.k c.requires c.month_of-month.result c.month_of-month.ensures in
    omega arith

pub returns : goal.returns
unfolding in_year_of
returns c = cc
