use Rattle.prelude.proofs.Logic.{rules}
use Rattle.schedule.specs.InForce.{current_number_of}
use Rattle.probes.proofs.worked.number.Goals as goal

pub returns-in-Some : goal.returns-in-Some
unfolding current_number_of
returns-in-Some c = cc

pub returns-in-None : goal.returns-in-None
unfolding current_number_of
returns-in-None c = cc
