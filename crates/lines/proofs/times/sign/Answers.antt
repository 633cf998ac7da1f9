use Rattle.prelude.proofs.Logic.{w64}
use Rattle.integers.proofs.Ranges.{read}
use Rattle.lines.proofs.Instants as instants
use Rattle.lines.proofs.times.sign.Goals as goal

pub returns-then-days-lt0 : goal.returns-then-days-lt0
returns-then-days-lt0 c = instants.minus c.args.days (rw (read w64 c.args.days c.ranges.days) at c.if-days-lt0.true)

pub returns-else-days-lt0 : goal.returns-else-days-lt0
returns-else-days-lt0 c = instants.plus c.args.days (rw (read w64 c.args.days c.ranges.days) at c.if-days-lt0.false)
