use Rattle.fields.specs.Fields.{length_at}
use Rattle.fields.proofs.plain.length_at.Goals as goal

pub returns-clause-value : goal.returns-clause-value
unfolding length_at
returns-clause-value c = c.unsigned.ensures.value
