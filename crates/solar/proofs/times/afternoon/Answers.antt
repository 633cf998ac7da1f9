use Rattle.prelude.proofs.Logic.{ap}
use Rattle.solar.specs.Hours.{sun_on}
use Rattle.solar.specs.Times.{solar_hour_of}
use Rattle.solar.proofs.SharedLaws.{afternoon-shared}
use Rattle.solar.proofs.times.afternoon.Goals as goal

pub returns : goal.returns
returns c =
    let a = c.args in
    simp (c.solar_hour.ensures, c.afternoon_number.ensures, c.date_course-course.ensures)
    (ap (solar_hour_of a.rule) (afternoon-shared (sun_on a.coordinates a.date) a.shadow_length))
