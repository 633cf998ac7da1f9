use Rattle.prelude.proofs.Logic.{w64}
use Rattle.integers.proofs.Ranges.{read}
use Rattle.lines.proofs.Moments.{second_fits, second-cast, second-since}
use Rattle.lines.proofs.times.second_from.Goals as goal

pub overflow_sub-result : goal.overflow_sub-result
overflow_sub-result c =
    second_fits c.args.start c.args.time _ _ (read w64 c.args.start c.ranges.start)
    (read w64 c.args.time c.ranges.time) c.requires.0 c.requires.1

pub overflow_cast-result : goal.overflow_cast-result
overflow_cast-result c =
    second-cast c.args.start c.args.time _ _ (read w64 c.args.start c.ranges.start)
    (read w64 c.args.time c.ranges.time) c.requires.0 c.requires.1

pub returns : goal.returns
returns c =
    second-since c.args.start c.args.time _ _ (read w64 c.args.start c.ranges.start)
    (read w64 c.args.time c.ranges.time) c.requires.0 c.requires.1
