-- A signed number is compared as it is read back from its bits.
use Rattle.prelude.proofs.Logic.{rules, w32, SFits, to_z-of_z}
use Rattle.order.specs.Ranges.{clock_fits}
use Rattle.order.proofs.ranges.clock_fits.Goals as goal

pub returns : goal.returns
unfolding clock_fits
returns c = let f : SFits w32 c.signed-minutes.result = search rules in cc (to_z-of_z f)
