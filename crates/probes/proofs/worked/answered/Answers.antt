use Rattle.prelude.proofs.Logic.{rules}
use Rattle.probes.specs.Days.{probe_day_of}
use Rattle.probes.proofs.worked.answered.Goals as goal

pub returns-in-Ok : goal.returns-in-Ok
unfolding probe_day_of
returns-in-Ok c = cc

pub returns-in-Err : goal.returns-in-Err
unfolding probe_day_of
returns-in-Err c = simp c.in-Err.is
