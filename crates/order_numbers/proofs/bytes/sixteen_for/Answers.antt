use Rattle.prelude.proofs.Logic.{arith, lt-ltb, le-ltb}
use Rattle.order_numbers.specs.Bytes.{sixteen_for}
use Rattle.order_numbers.proofs.bytes.sixteen_for.Goals as goal

pub returns-then-below-gt32768 : goal.returns-then-below-gt32768
unfolding sixteen_for
returns-then-below-gt32768 c =
    record {
      value = simp (lt-ltb _ _ c.if-below-gt32768.true);
      upper_bound = omega arith;
    }

pub returns-then-above-gt32767 : goal.returns-then-above-gt32767
unfolding sixteen_for
returns-then-above-gt32767 c =
    record {
      value = simp (le-ltb _ _ c.if-below-gt32768.false, lt-ltb _ _ c.if-above-gt32767.true);
      upper_bound = omega arith;
    }

pub returns : goal.returns
unfolding sixteen_for
returns c =
    record {
      value = simp (le-ltb _ _ c.if-below-gt32768.false, le-ltb _ _ c.if-above-gt32767.false);
      upper_bound = omega arith;
    }
