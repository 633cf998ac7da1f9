use Rattle.prelude.proofs.Logic.{ap, ◌∙◌, w64}
use Rattle.integers.proofs.Ranges.{read}
use Rattle.calendar.specs.Days.{weekday_of}
use Rattle.probes.proofs.dates.probe_weekday.Goals as goal

pub returns : goal.returns
returns c = c.weekday.ensures ∙ ap weekday_of (read w64 c.args.day c.ranges.day)
