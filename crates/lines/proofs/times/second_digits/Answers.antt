use Rattle.prelude.proofs.Logic.{refl}
use Rattle.lines.proofs.times.second_digits.Goals as goal

pub returns-then-second-eq0 : goal.returns-then-second-eq0
returns-then-second-eq0 c = rw c.if-second-eq0.true (refl, refl)

pub returns : goal.returns
returns c = c.two_digits.ensures
