-- A test for each of the two bytes.
use Rattle.order.specs.Ranges.{ramadan_fits}
use Rattle.order.proofs.ranges.ramadan_fits.Goals as goal

pub returns : goal.returns
unfolding ramadan_fits
returns c = cc
