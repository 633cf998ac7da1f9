use Rattle.order_numbers.specs.Bytes.{two_bytes}
use Rattle.order_numbers.specs.Values.{date_bytes}
use Rattle.order_numbers.proofs.put.date_bytes.Goals as goal

pub returns : goal.returns
unfolding date_bytes two_bytes
returns c = simp (c.word_bytes-year.ensures, c.byte_for.ensures, c.byte_for-2.ensures)
