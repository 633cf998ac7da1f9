-- The year of the count, and then the day of that year, are the date of the day (`ByCount`).
use Rattle.prelude.proofs.Logic.{arith, w64}
use Rattle.integers.proofs.Integers.{read}
use Rattle.calendar.specs.Days.{date_at_of}
use Rattle.calendar.proofs.ByCount.{days-fit, year-fits, Rest, rest, since_held}
use Rattle.calendar.proofs.dates.Date.of_day.Goals as goal
use Rattle.calendar.proofs.dates.Date.of_day.Goals.{After-days_before_year}

-- the days of the year up to the day, from 1 on
rest-of-year : (c : After-days_before_year) → Rest _ _ c.since_first-n.ensures _ c.year_of-year.ensures _
    c.days_before_year.ensures
rest-of-year c = rest _ _ c.since_first-n.ensures _ c.year_of-year.ensures _ c.days_before_year.ensures

pub year_of-year-requires : goal.year_of-year-requires
year_of-year-requires c = days-fit _ _ c.since_first-n.ensures

pub overflow_cast-year : goal.overflow_cast-year
overflow_cast-year c = let y = year-fits _ _ c.since_first-n.ensures _ c.year_of-year.ensures in omega arith

pub overflow_add-n : goal.overflow_add-n
overflow_add-n c = let d = days-fit _ _ c.since_first-n.ensures in omega arith

pub days_before_year-requires : goal.days_before_year-requires
days_before_year-requires c = let y = year-fits _ _ c.since_first-n.ensures _ c.year_of-year.ensures in omega arith

pub overflow_sub-n : goal.overflow_sub-n
overflow_sub-n c = (rest-of-year c).less

pub overflow_cast-n : goal.overflow_cast-n
overflow_cast-n c = let r = rest-of-year c in omega arith

pub of_ordinal-requires : goal.of_ordinal-requires
of_ordinal-requires c = let r = rest-of-year c in (r.from, r.to)

pub returns : goal.returns
unfolding date_at_of
returns c =
    let z = c.args.day in let s = c.since_first-n.ensures in
    let y = c.year_of-year.ensures in let b = c.days_before_year.ensures in let o = c.of_ordinal.ensures in
    simp (o, b, y, s, read w64 z c.ranges.day) (since_held z)
