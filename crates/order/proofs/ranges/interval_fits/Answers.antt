-- An unsigned number is not below 0, so one comparison is enough.
use Rattle.prelude.proofs.Logic.{sym, zero-le, le-leb}
use Rattle.order.specs.Ranges.{interval_fits}
use Rattle.order.proofs.ranges.interval_fits.Goals as goal

pub returns : goal.returns
unfolding interval_fits
returns c = simp (sym c.unsigned.ensures.value, le-leb 0 c.unsigned.result zero-le)
