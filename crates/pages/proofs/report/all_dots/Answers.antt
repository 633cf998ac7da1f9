use Rattle.prelude.proofs.Logic.{ap, ◌∙◌}
use Rattle.braille.specs.Braille.{dots_of}
use Rattle.pages.proofs.ReportLaws.{all_written}
use Rattle.pages.proofs.report.all_dots.Goals as goal

pub returns : goal.returns
returns c = c.put_rows.ensures.value ∙ ap dots_of (all_written _)
