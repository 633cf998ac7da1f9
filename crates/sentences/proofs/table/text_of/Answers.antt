use Rattle.prelude.proofs.Logic.{le_refl}
use Rattle.sentences.specs.Table.{texts, text_of}
use Rattle.sentences.proofs.Steps.{behind}
use Rattle.sentences.proofs.table.text_of.Goals as goal

pub returns : goal.returns
unfolding texts text_of
returns c = rw (c.unwrap_or.ensures, c.copied.ensures, c.get.ensures.lookup.4 (le_refl _), behind)
