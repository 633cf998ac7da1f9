use Rattle.probes.proofs.worked.setting.Goals as goal

pub returns : goal.returns
returns c = cc
