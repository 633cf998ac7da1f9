use Rattle.prelude.proofs.Logic.{◌-◌, length}
use Rattle.fields.proofs.Collecting.{Checking}
use Rattle.fields.proofs.plain.walk.Given as goal

abbrev pub invariant-loop-at : goal.invariant-loop-at
invariant-loop-at l = Checking l.order l.at l.seen

abbrev pub decreases-loop-at : goal.decreases-loop-at
decreases-loop-at l = length l.order - l.at
