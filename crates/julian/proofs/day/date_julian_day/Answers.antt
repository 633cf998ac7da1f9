-- The parts of the date saturate at the largest i32, in the code as in the definition.
use Rattle.prelude.proofs.Logic.{rules, w32, SFits}
use Rattle.float64.proofs.Floats.{round, of_bits, dec}
use Rattle.integers.proofs.Integers.{read}
use Rattle.julian.specs.Julian.{date_julian_day_of}
use Rattle.julian.proofs.day.date_julian_day.Goals as goal

pub returns : goal.returns
unfolding date_julian_day_of dec round of_bits
returns c =
    let c1 = c.before in
    let c2 = c1.before in
    let c3 = c2.before in
    let r1 : SFits w32 c1.saturated-3.result = search rules in
    let r2 : SFits w32 c2.saturated-2.result = search rules in
    let r3 : SFits w32 c3.saturated.result = search rules in
    cc (read w32 _ r1, read w32 _ r2, read w32 _ r3)
