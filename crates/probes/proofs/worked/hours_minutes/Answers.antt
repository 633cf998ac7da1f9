use Rattle.probes.specs.Days.{probe_remaining_of}
use Rattle.prelude.proofs.Logic.{rules}
use Rattle.probes.proofs.worked.hours_minutes.Goals as goal

pub returns-in-Some : goal.returns-in-Some
unfolding probe_remaining_of
returns-in-Some c = cc

pub returns-in-None : goal.returns-in-None
unfolding probe_remaining_of
returns-in-None c = cc
