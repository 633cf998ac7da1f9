use Rattle.prelude.proofs.Logic.{ap, ◌∙◌}
use Rattle.integers.proofs.Integers.{wide}
use Rattle.order_numbers.specs.Bytes.{two_bytes, sixteen_for}
use Rattle.order_numbers.proofs.PutLaws.{parts_kept}
use Rattle.order_numbers.proofs.bytes.signed_bytes.Goals as goal

pub overflow_cast-z : goal.overflow_cast-z
overflow_cast-z c = wide c.args.z c.ranges.z

pub overflow_cast-z-2 : goal.overflow_cast-z-2
overflow_cast-z-2 c = wide c.args.z c.ranges.z

pub returns : goal.returns
returns c =
    c.two_bytes.ensures ∙ ap two_bytes (c.sixteen_for.ensures.value
    ∙ parts_kept sixteen_for c.args.z c.ranges.z _ _ c.above.ensures c.below.ensures)
