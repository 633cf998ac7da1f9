use Rattle.prelude.proofs.Logic.{ap}
use Rattle.solar.specs.Hours.{sun_on}
use Rattle.solar.specs.Times.{solar_hour_of}
use Rattle.solar.proofs.SharedLaws.{angle-shared}
use Rattle.solar.proofs.times.time_for_solar_angle.Goals as goal

pub returns : goal.returns
returns c =
    let a = c.args in
    simp (c.solar_hour.ensures, c.angle_number.ensures, c.date_course-course.ensures)
    (ap (solar_hour_of a.rule) (angle-shared (sun_on a.coordinates a.date) a.angle a.after_transit))
