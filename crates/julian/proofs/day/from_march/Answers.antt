-- Each operation is the definition's, in its order; the casts are to i32 in both.
use Rattle.prelude.proofs.Logic.{rules, w32, w64, SFits}
use Rattle.float64.proofs.Floats.{round, of_bits, dec}
use Rattle.integers.proofs.Integers.{read}
use Rattle.julian.specs.Julian.{from_march_of, year_product_of, month_product_of}
use Rattle.julian.proofs.day.from_march.Goals as goal

pub returns : goal.returns
unfolding from_march_of year_product_of month_product_of dec round of_bits
returns c =
    let c1 = c.before.before.before in
    let c2 = c1.before.before in
    let c3 = c2.before.before in
    let s = c3.before in
    let r0 : SFits w32 c2.to_i32-i0.result = search rules in
    let r1 : SFits w32 c1.to_i32-i1.result = search rules in
    let rb : SFits w64 c3.correction-b.result = search rules in
    cc (read w32 _ r0, read w32 _ r1, read w64 _ rb, read w64 _ s.ranges.year, read w64 _ s.ranges.month)
