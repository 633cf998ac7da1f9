use Rattle.prelude.proofs.Logic.{◌≡◌, ap, ◌∙◌, rules, w64}
use Rattle.integers.proofs.Ranges.{read_back}
use Rattle.hijri.specs.Days.{day_number_of}
use Rattle.probes.proofs.dates.probe_tabular_day.Goals as goal

pub returns : goal.returns
returns c =
    let k : read_back w64 c.day_number.result ≡ c.day_number.result = search rules in
    k ∙ c.day_number.ensures ∙ ap day_number_of c.new.ensures
