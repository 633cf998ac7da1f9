use Rattle.prelude.proofs.Logic.{ap, ◌∙◌, w64}
use Rattle.integers.proofs.Ranges.{read}
use Rattle.calendar.specs.Answers.{of_day_of}
use Rattle.probes.proofs.dates.probe_of_day.Goals as goal

pub returns : goal.returns
returns c = c.of_day.ensures ∙ ap of_day_of (read w64 c.args.day c.ranges.day)
