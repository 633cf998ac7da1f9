use Rattle.probes.specs.Functions.{probe_time_of}
use Rattle.probes.proofs.functions.probe_solar_hour.Goals as goal

pub returns : goal.returns
unfolding probe_time_of
returns c = cc
