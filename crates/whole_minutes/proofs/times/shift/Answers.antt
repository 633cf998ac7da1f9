use Rattle.prelude.proofs.Logic.{◌∙◌, arith, lit≤, lt-ltb, le-ltb}
use Rattle.whole_minutes.specs.Times.{shift_of}
use Rattle.whole_minutes.proofs.Minutes as minutes
use Rattle.whole_minutes.proofs.times.shift.Goals as goal

pub overflow_sub-result : goal.overflow_sub-result
unfolding shift_of
overflow_sub-result c = minutes.less_fits _ c.args.s (lit≤ tt) c.ranges.s

pub returns-then-s-lt30 : goal.returns-then-s-lt30
unfolding shift_of
returns-then-s-lt30 c =
    minutes.less_is _ c.args.s (lit≤ tt) c.ranges.s ∙ rw (c.in-Nearest.is, lt-ltb c.args.s 30 (omega arith))

pub overflow_sub-result-else-s-lt30 : goal.overflow_sub-result-else-s-lt30
unfolding shift_of
overflow_sub-result-else-s-lt30 c = minutes.less_fits _ c.args.s (lit≤ tt) c.ranges.s

pub overflow_sub-result-in-Up : goal.overflow_sub-result-in-Up
unfolding shift_of
overflow_sub-result-in-Up c = minutes.less_fits _ c.args.s (lit≤ tt) c.ranges.s

pub returns-else-s-lt30 : goal.returns-else-s-lt30
unfolding shift_of
returns-else-s-lt30 c =
    minutes.less_is _ c.args.s (lit≤ tt) c.ranges.s ∙ rw (c.in-Nearest.is, le-ltb c.args.s 30 (omega arith))

pub returns-in-Up : goal.returns-in-Up
unfolding shift_of
returns-in-Up c = minutes.less_is _ c.args.s (lit≤ tt) c.ranges.s ∙ rw c.in-Up.is

pub returns-in-None : goal.returns-in-None
unfolding shift_of
returns-in-None c = rw c.in-None.is
