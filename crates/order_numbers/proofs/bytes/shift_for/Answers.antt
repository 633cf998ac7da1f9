use Rattle.prelude.proofs.Logic.{lt-ltb, le-ltb}
use Rattle.order_numbers.specs.Bytes.{shift_for}
use Rattle.order_numbers.proofs.bytes.shift_for.Goals as goal

pub returns-then-below-gt1 : goal.returns-then-below-gt1
unfolding shift_for
returns-then-below-gt1 c = simp (lt-ltb _ _ c.if-below-gt1.true)

pub returns-then-above-gt1 : goal.returns-then-above-gt1
unfolding shift_for
returns-then-above-gt1 c = simp (le-ltb _ _ c.if-below-gt1.false, lt-ltb _ _ c.if-above-gt1.true)

pub returns : goal.returns
unfolding shift_for
returns c = simp (le-ltb _ _ c.if-below-gt1.false, le-ltb _ _ c.if-above-gt1.false)
