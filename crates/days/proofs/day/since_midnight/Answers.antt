use Rattle.schedule.proofs.RowSunsLaws.{first_since}
use Rattle.days.proofs.day.since_midnight.Goals as goal

pub returns : goal.returns
returns c =
    let e = c.since_midnight.ensures in
    (simp (e.0, c.new.ensures) (first_since _ _), e.1)
