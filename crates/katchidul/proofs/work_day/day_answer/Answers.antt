use Rattle.prelude.proofs.Logic.{rules}
use Rattle.katchidul.specs.Exports.{day_answer_of}
use Rattle.katchidul.proofs.work_day.day_answer.Goals as goal

pub returns-in-Ok : goal.returns-in-Ok
unfolding day_answer_of
returns-in-Ok c = cc

pub returns-in-Err : goal.returns-in-Err
unfolding day_answer_of
returns-in-Err c = simp c.in-Err.is
