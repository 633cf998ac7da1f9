use Rattle.prelude.proofs.Logic.{◌∙◌}
use Rattle.order_numbers.proofs.BytesLaws.{two_is}
use Rattle.order_numbers.proofs.bytes.two_bytes.Goals as goal

pub returns : goal.returns
returns c = c.to_be_bytes.ensures ∙ two_is c.args.n c.requires
