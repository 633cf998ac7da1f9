use Rattle.katchidul.specs.Exports.{remaining_answer_of}
use Rattle.prelude.proofs.Logic.{rules}
use Rattle.katchidul.proofs.remaining_at.remaining_answer.Goals as goal

pub returns-in-Ok : goal.returns-in-Ok
unfolding remaining_answer_of
returns-in-Ok c = cc

pub returns-in-Err : goal.returns-in-Err
unfolding remaining_answer_of
returns-in-Err c = cc
