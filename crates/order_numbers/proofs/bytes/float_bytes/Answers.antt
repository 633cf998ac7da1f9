use Rattle.prelude.proofs.Logic.{◌∙◌, eq-eqb, ne_eqb}
use Rattle.order_numbers.specs.Bytes.{float_bytes}
use Rattle.order_numbers.proofs.BytesLaws.{eight_is}
use Rattle.order_numbers.proofs.bytes.float_bytes.Goals as goal

pub returns-then-n : goal.returns-then-n
unfolding float_bytes
returns-then-n c =
    let bits = c.to_bits-n.ensures in
    simp (← bits, eq-eqb _ _ c.if-n.true) (c.to_be_bytes.ensures ∙ eight_is _)

pub returns : goal.returns
unfolding float_bytes
returns c =
    let bits = c.to_bits-n.ensures in
    simp (← bits, ne_eqb _ _ c.if-n.false) (c.to_be_bytes-2.ensures ∙ eight_is _)
