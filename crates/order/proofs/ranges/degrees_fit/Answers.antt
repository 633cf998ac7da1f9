use Rattle.order.proofs.ranges.degrees_fit.Goals as goal

pub returns : goal.returns
returns c = cc
