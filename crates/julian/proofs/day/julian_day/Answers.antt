-- January and February are months 13 and 14 of the year before, in the code as in the definition.
use Rattle.prelude.proofs.Logic.{◌≡◌, true, false, lit≤, pos, lt_z, w32}
use Rattle.float64.proofs.Floats.{round, of_bits, dec}
use Rattle.integers.proofs.Integers.{read, wide, read_wide, constant, of_wide, held_sum, held_difference, held_fits, stored}
use Rattle.julian.specs.Julian.{julian_day_of}
use Rattle.julian.proofs.day.julian_day.Goals as goal

pub overflow_cast-year : goal.overflow_cast-year
overflow_cast-year c = let s = c.before.before in wide s.args.year s.ranges.year

pub overflow_cast-month : goal.overflow_cast-month
overflow_cast-month c = let s = c.before.before in wide s.args.month s.ranges.month

pub overflow_cast-year-else-month-gt2 : goal.overflow_cast-year-else-month-gt2
overflow_cast-year-else-month-gt2 c = let s = c.before.before in wide s.args.year s.ranges.year

pub overflow_sub-year : goal.overflow_sub-year
overflow_sub-year c =
    let s = c.before.before in held_fits (held_difference (of_wide s.args.year s.ranges.year) (constant 1)) (lit≤ tt)

pub overflow_cast-month-else-month-gt2 : goal.overflow_cast-month-else-month-gt2
overflow_cast-month-else-month-gt2 c = let s = c.before.before in wide s.args.month s.ranges.month

pub overflow_add-month : goal.overflow_add-month
overflow_add-month c =
    let s = c.before.before in held_fits (held_sum (of_wide s.args.month s.ranges.month) (constant 12)) (lit≤ tt)

pub returns-then-month-gt2 : goal.returns-then-month-gt2
unfolding julian_day_of dec round of_bits
returns-then-month-gt2 c =
    let s = c.before.before.before in
    let m = s.args.month in
    let fm = s.ranges.month in
    let t : lt_z (pos 2) m ≡ true = rw (← read w32 m fm) c.if-month-gt2.true in
    simp (c.from_march.ensures, read_wide s.args.year s.ranges.year, read_wide m fm, read w32 s.args.day s.ranges.day, t)

pub returns-else-month-gt2 : goal.returns-else-month-gt2
unfolding julian_day_of dec round of_bits
returns-else-month-gt2 c =
    let s = c.before.before.before in
    let m = s.args.month in
    let fm = s.ranges.month in
    let t : lt_z (pos 2) m ≡ false = rw (← read w32 m fm) c.if-month-gt2.false in
    let before = stored (held_difference (of_wide s.args.year s.ranges.year) (constant 1)) (lit≤ tt) in
    let after = stored (held_sum (of_wide m fm) (constant 12)) (lit≤ tt) in
    rw (c.from_march-else-month-gt2.ensures, before.is, after.is, read w32 s.args.day s.ranges.day, t)
