use Rattle.prelude.proofs.Logic.{◌∙◌}
use Rattle.integers.proofs.Integers.{wide}
use Rattle.order_numbers.specs.Bytes.{shift_for}
use Rattle.order_numbers.proofs.PutLaws.{parts_kept}
use Rattle.order_numbers.proofs.bytes.shift_byte.Goals as goal

pub overflow_cast-z : goal.overflow_cast-z
overflow_cast-z c = wide c.args.z c.ranges.z

pub overflow_cast-z-2 : goal.overflow_cast-z-2
overflow_cast-z-2 c = wide c.args.z c.ranges.z

pub returns : goal.returns
returns c =
    c.shift_for.ensures
    ∙ parts_kept shift_for c.args.z c.ranges.z _ _ c.above.ensures c.below.ensures
