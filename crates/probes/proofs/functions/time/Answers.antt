use Rattle.prelude.proofs.Logic.{rules, w32, SFits, to_z-of_z}
use Rattle.probes.specs.Functions.{probe_time_of}
use Rattle.probes.proofs.functions.time.Goals as goal

pub returns-in-Some : goal.returns-in-Some
unfolding probe_time_of
returns-in-Some c = let f0 : SFits w32 c.in-Some.seconds = search rules in cc (to_z-of_z f0)

pub returns-in-None : goal.returns-in-None
unfolding probe_time_of
returns-in-None c = cc
