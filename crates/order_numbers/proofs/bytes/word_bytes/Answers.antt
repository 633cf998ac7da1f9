use Rattle.order_numbers.proofs.BytesLaws.{min_is}
use Rattle.order_numbers.proofs.bytes.word_bytes.Goals as goal

pub returns : goal.returns
returns c = rw (← min_is 65535 c.args.n, ← c.min.ensures) c.two_bytes.ensures
