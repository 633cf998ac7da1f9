use Rattle.prelude.proofs.Logic.{arith}
use Rattle.ops.specs.Season.{southern_count_of}
use Rattle.ops.proofs.SouthernLaws.{year-gap, long}
use Rattle.ops.proofs.season.southern_count.Goals as goal

pub overflow_add-result : goal.overflow_add-result
overflow_add-result c =
    let year = c.args.year in
    record { fits = omega (arith, year-gap year, long year, c.if-solstice-day_of_year.false, c.days_in_year-days.ensures, c.southern_offset-solstice.ensures) }

pub overflow_sub-result-else-solstice-day_of_year : goal.overflow_sub-result-else-solstice-day_of_year
unfolding southern_count_of
overflow_sub-result-else-solstice-day_of_year c =
    let g = year-gap c.args.year in
    omega (arith, c.days_in_year-days.ensures, c.southern_offset-solstice.ensures)
