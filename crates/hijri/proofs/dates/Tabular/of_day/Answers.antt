-- The year of the count, and then the month and the day, are the date of the day (`ByCount`).
use Rattle.prelude.proofs.Logic.{arith, w64}
use Rattle.integers.proofs.Integers.{read}
use Rattle.hijri.specs.Days.{date_at_of}
use Rattle.hijri.proofs.ByCount.{days-fit, year-fits, rest, since_held}
use Rattle.hijri.proofs.dates.Tabular.of_day.Goals as goal

pub year_of-year-requires : goal.year_of-year-requires
year_of-year-requires c = days-fit _ _ c.since_first-n.ensures

pub overflow_cast-year : goal.overflow_cast-year
overflow_cast-year c = let y = year-fits _ _ c.since_first-n.ensures _ c.year_of-year.ensures in omega arith

pub overflow_add-n : goal.overflow_add-n
overflow_add-n c = let d = days-fit _ _ c.since_first-n.ensures in omega arith

pub year_start-requires : goal.year_start-requires
year_start-requires c = let y = year-fits _ _ c.since_first-n.ensures _ c.year_of-year.ensures in omega arith

pub overflow_sub-n : goal.overflow_sub-n
overflow_sub-n c = (rest _ _ c.since_first-n.ensures _ c.year_of-year.ensures _ c.year_start.ensures).less

pub in_year-requires : goal.in_year-requires
in_year-requires c = (rest _ _ c.since_first-n.ensures _ c.year_of-year.ensures _ c.year_start.ensures).short

pub returns : goal.returns
unfolding date_at_of
returns c =
    let z = c.args.day in
    let s = c.since_first-n.ensures in
    let y = c.year_of-year.ensures in
    let b = c.year_start.ensures in
    let o = c.in_year.ensures in
    simp (o, b, y, s, read w64 z c.ranges.day) (since_held z)
