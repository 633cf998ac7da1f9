use Rattle.prelude.proofs.Logic.{◌∙◌}
use Rattle.order_numbers.proofs.BytesLaws.{min_is}
use Rattle.order_numbers.proofs.bytes.byte_for.Goals as goal

pub returns : goal.returns
returns c = c.min.ensures ∙ min_is 255 c.args.n
