use Rattle.prelude.proofs.Logic.{rules}
use Rattle.katchidul.specs.Exports.{next_answer_of}
use Rattle.katchidul.proofs.prayer_at.next_answer.Goals as goal

pub returns-in-Ok : goal.returns-in-Ok
unfolding next_answer_of
returns-in-Ok c = cc

pub returns-in-Err : goal.returns-in-Err
unfolding next_answer_of
returns-in-Err c = cc
