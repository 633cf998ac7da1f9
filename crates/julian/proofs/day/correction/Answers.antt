use Rattle.prelude.proofs.Logic.{lit<}
use Rattle.julian.proofs.Wide.{century-fits, two-less-fits, fourth-fits, sum_fits, correction-read}
use Rattle.julian.proofs.day.correction.Goals as goal

pub nonzero_div-a : goal.nonzero_div-a
nonzero_div-a c = (lit< tt, century-fits c.args.year c.ranges.year)

pub overflow_sub-result : goal.overflow_sub-result
overflow_sub-result c = two-less-fits c.args.year c.ranges.year

pub nonzero_div-result : goal.nonzero_div-result
nonzero_div-result c = (lit< tt, fourth-fits c.args.year c.ranges.year)

pub overflow_add-result : goal.overflow_add-result
overflow_add-result c = sum_fits c.args.year c.ranges.year

pub returns : goal.returns
returns c = correction-read c.args.year c.ranges.year
