use Rattle.lines.specs.Lines.{date_text}
use Rattle.lines.proofs.times.date_text.Goals as goal

pub returns : goal.returns
unfolding date_text
returns c = cc
