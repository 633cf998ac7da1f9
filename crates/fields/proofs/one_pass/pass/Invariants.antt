use Rattle.prelude.proofs.Logic.{◌-◌, length}
use Rattle.fields.proofs.Collecting.{Collecting}
use Rattle.fields.proofs.one_pass.pass.Given as goal

abbrev pub invariant-loop-at : goal.invariant-loop-at
invariant-loop-at l = Collecting l.order l.at l.fields

abbrev pub decreases-loop-at : goal.decreases-loop-at
decreases-loop-at l = length l.order - l.at
