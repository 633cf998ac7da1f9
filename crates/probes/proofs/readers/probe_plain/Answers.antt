use Rattle.prelude.proofs.Logic.{ap, ◌∙◌}
use Rattle.probes.specs.Readers.{answer_of}
use Rattle.probes.proofs.readers.probe_plain.Goals as goal

pub returns : goal.returns
returns c = c.answer.ensures ∙ ap answer_of c.read.ensures
