use Rattle.float64.proofs.Floats.{round, of_bits, dec}
use Rattle.probes.proofs.worked.probe_day.Goals as goal

pub returns : goal.returns
unfolding dec round of_bits
returns c =
    let s = c.before.before in
    simp (c.answered.ensures, c.new-2.ensures, s.setting.ensures, s.new.ensures)
