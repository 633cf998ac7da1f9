use Rattle.katchidul.specs.Exports.{day_answer_of}
use Rattle.katchidul.proofs.work_day.katchidul_work_day.Goals as goal

pub returns : goal.returns
unfolding day_answer_of
returns c = cc
