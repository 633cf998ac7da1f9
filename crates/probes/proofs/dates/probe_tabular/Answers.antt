use Rattle.prelude.proofs.Logic.{◌≡◌, ap, ◌∙◌, w64}
use Rattle.integers.proofs.Ranges.{read}
use Rattle.calendar.specs.Gregorian.{date_of}
use Rattle.hijri.specs.{Days.of_day_of, declared.dates.Tabular.Tabular}
use Rattle.probes.specs.Dates.{tabular_of_day}
use Rattle.probes.proofs.dates.probe_tabular.Goals as goal

pub returns : goal.returns
unfolding tabular_of_day
returns c =
    let s = c.before.before in
    let e : c.of_day-tabular.result ≡ of_day_of s.args.day =
    c.of_day-tabular.ensures ∙ ap of_day_of (read w64 s.args.day s.ranges.day) in
    c.new.ensures ∙ ap (λ (d : Tabular). date_of d.year d.month d.day) e
