-- A signed number is compared as it is read back from its bits.
use Rattle.prelude.proofs.Logic.{to_z-of_z}
use Rattle.order.specs.Ranges.{minute_fits}
use Rattle.order.proofs.ranges.minute_fits.Goals as goal

pub returns : goal.returns
unfolding minute_fits
returns c = cc (to_z-of_z c.ranges.minute)
