use Rattle.prelude.proofs.Logic.{rules}
use Rattle.float64.proofs.Floats.{round, of_bits, dec}
use Rattle.order_numbers.specs.Numbers.{order_numbers_in}
use Rattle.probes.specs.Readers.{answer_of}
use Rattle.probes.proofs.readers.answer.Goals as goal

pub returns-in-Ok : goal.returns-in-Ok
unfolding answer_of order_numbers_in
returns-in-Ok c =
    simp (c.numbers_of-numbers.ensures, c.in-Ok.is)

pub returns-in-Err : goal.returns-in-Err
unfolding answer_of order_numbers_in dec round of_bits
returns-in-Err c = simp (c.numbers_of-numbers.ensures, c.in-Err.is)
