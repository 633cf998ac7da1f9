use Rattle.order.proofs.ranges.date_fits.Goals as goal

pub returns : goal.returns
returns c = cc
