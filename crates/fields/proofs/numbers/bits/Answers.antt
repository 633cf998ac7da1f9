use Rattle.prelude.proofs.Logic.{◌∙◌, sym, lit≤, length-take-le}
use Rattle.fields.specs.Numbers.{bits_of}
use Rattle.fields.proofs.Joining.{cut_joined}
use Rattle.fields.proofs.numbers.bits.Goals as goal

pub slice_bounds-joined-end : goal.slice_bounds-joined-end
slice_bounds-joined-end c = sym (length-take-le 8 c.args.bytes.now c.if-bytes-lt8.false)

pub returns : goal.returns
unfolding bits_of
returns c = c.joined-2.ensures ∙ cut_joined c.args.bytes.now 8 8 (lit≤ tt)
