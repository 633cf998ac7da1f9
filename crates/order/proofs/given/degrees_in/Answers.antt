use Rattle.float64.proofs.Floats.{round, of_bits, dec}
use Rattle.prelude.proofs.Logic.{sym}
use Rattle.order.specs.Given.{degrees_in}
use Rattle.order.proofs.given.degrees_in.Goals as goal

pub returns-then-x : goal.returns-then-x
unfolding degrees_in dec round of_bits
returns-then-x c = simp (simp c.float-x.ensures at c.if-x.true)

pub returns-else-x : goal.returns-else-x
unfolding degrees_in dec round of_bits
returns-else-x c = simp (sym c.float-x.ensures, c.if-x.false)
