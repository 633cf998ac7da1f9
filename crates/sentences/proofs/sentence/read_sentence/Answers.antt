use Rattle.std.proofs.Common.{◌∙◌}
use Rattle.sentences.proofs.Promises.{guessed-right}
use Rattle.sentences.proofs.sentence.read_sentence.Goals as goal

pub returns-in-Some : goal.returns-in-Some
returns-in-Some c = c.in-Some.ensures ∙ guessed-right _

pub returns-in-None : goal.returns-in-None
returns-in-None c = c.in-None.ensures ∙ guessed-right _
