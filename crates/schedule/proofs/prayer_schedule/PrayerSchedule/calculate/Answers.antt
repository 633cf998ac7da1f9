-- With all three, the result is the first row of a run (`first_row`).
use Rattle.std.specs.Prelude.{Some}
use Rattle.prelude.proofs.Logic.{ap}
use Rattle.schedule.specs.Builder.{calculated_from}
use Rattle.schedule.proofs.RowSunsLaws.{first_row}
use Rattle.schedule.proofs.prayer_schedule.PrayerSchedule.calculate.Goals as goal

pub returns : goal.returns
unfolding calculated_from
returns c =
    simp (c.work.ensures, c.new.ensures, c.source.ensures, c.in_ok-date.was, c.in_ok-self.was, c.in_ok-self-2.was) (ap Some (first_row _ _))
