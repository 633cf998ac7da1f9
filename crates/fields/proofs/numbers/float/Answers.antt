use Rattle.fields.specs.Numbers.{float_of}
use Rattle.fields.proofs.numbers.float.Goals as goal

pub returns : goal.returns
unfolding float_of
returns c = cc
