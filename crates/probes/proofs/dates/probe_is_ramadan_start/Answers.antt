use Rattle.prelude.proofs.Logic.{ap, ◌∙◌, ℤ, w32, w64}
use Rattle.integers.proofs.Ranges.{read_back, read}
use Rattle.hijri.specs.Ramadan.{ramadan_start_of}
use Rattle.probes.proofs.dates.probe_is_ramadan_start.Goals as goal

pub returns : goal.returns
returns c =
    let a = c.args in
    let day = read w64 a.day c.ranges.day in
    let shift = read w32 a.shift c.ranges.shift in
    c.is_ramadan_start.ensures ∙ ap (λ (z : ℤ). ramadan_start_of z (read_back w32 a.shift)) day ∙ ap (ramadan_start_of a.day) shift
