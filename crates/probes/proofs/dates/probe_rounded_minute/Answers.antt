use Rattle.prelude.proofs.Logic.{◌≡◌, ap, ◌∙◌, ℤ, rules, w64}
use Rattle.integers.proofs.Ranges.{read_back, read}
use Rattle.models.specs.declared.rounding.Rounding.{Rounding}
use Rattle.whole_minutes.specs.Times.{sat_of, rounded_of}
use Rattle.probes.proofs.dates.probe_rounded_minute.Goals as goal

pub returns : goal.returns
returns c =
    let s = c.before.before in
    let rounding = c.of_number in
    let k : read_back w64 c.rounded_minute.result ≡ c.rounded_minute.result = search rules in
    let time = read w64 s.args.time s.ranges.time in
    k ∙ c.rounded_minute.ensures ∙ ap (λ (z : ℤ). sat_of (rounded_of rounding.result z)) time
    ∙ ap (λ (r : Rounding). sat_of (rounded_of r s.args.time)) rounding.ensures
