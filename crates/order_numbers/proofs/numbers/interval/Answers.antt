use Rattle.prelude.proofs.Logic.{◌≡◌, ap, ◌∙◌, arith, w32}
use Rattle.integers.proofs.Integers.{P, range, read_wide, wide}
use Rattle.order_numbers.proofs.numbers.interval.Goals as goal

pub overflow_cast-minutes : goal.overflow_cast-minutes
overflow_cast-minutes c = wide c.args.minutes c.ranges.minutes

pub overflow_cast-result : goal.overflow_cast-result
overflow_cast-result c =
    let z = c.args.minutes in
    let is : c.above.result ≡ P z = c.above.ensures ∙ ap P (read_wide z c.ranges.minutes) in
    record { fits = omega (arith, (range w32 z c.ranges.minutes).high) }

pub returns : goal.returns
returns c = c.above.ensures ∙ ap P (read_wide c.args.minutes c.ranges.minutes)
