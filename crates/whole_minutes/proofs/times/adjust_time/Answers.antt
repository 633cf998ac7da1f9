-- Beyond the code's two limits no time stays in range. Between them the two saturated sums of a half make the saturated sum.
use Rattle.prelude.proofs.Logic.{◌≡◌, rules, w64}
use Rattle.integers.proofs.Integers.{read_back}
use Rattle.whole_minutes.proofs.Minutes as minutes
use Rattle.whole_minutes.proofs.times.adjust_time.Goals as goal

pub returns-then-minutes-gt-MOST_MINUTES : goal.returns-then-minutes-gt-MOST_MINUTES
returns-then-minutes-gt-MOST_MINUTES c =
    let s = c.before in minutes.far-up s.args.t s.args.minutes s.ranges.t s.ranges.minutes c.if-minutes-gt-MOST_MINUTES.true

pub returns-then-minutes : goal.returns-then-minutes
returns-then-minutes c =
    let s = c.before.before in minutes.far-down s.args.t s.args.minutes s.ranges.t s.ranges.minutes c.if-minutes.true

pub overflow_mul-half : goal.overflow_mul-half
overflow_mul-half c =
    let s = c.before.before in
    minutes.half-fits s.args.t s.args.minutes s.ranges.t s.ranges.minutes c.if-minutes-gt-MOST_MINUTES.false c.if-minutes.false

pub returns : goal.returns
returns c =
    let s = c.before.before.before.before in
    let x = c.plus.result in
    let r = c.plus-2.result in
    let p : read_back w64 x ≡ x = search rules in
    let q : read_back w64 r ≡ r = search rules in
    minutes.adjusted-is s.args.t s.args.minutes s.ranges.t s.ranges.minutes x r (overflow_mul-half c.before.before) p q
    c.plus.ensures c.plus-2.ensures
