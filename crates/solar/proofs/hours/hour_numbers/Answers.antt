use Rattle.solar.specs.Shared.{course_numbers_of, course_angle_number_of}
use Rattle.ops.specs.Shared.{half_arc_of}
use Rattle.solar.proofs.AltitudeSine.{altitude_sine}
use Rattle.solar.proofs.hours.hour_numbers.Goals as goal

pub returns : goal.returns
unfolding course_numbers_of course_angle_number_of half_arc_of
returns c =
    simp (c.hour_number-2.ensures, c.hour_number.ensures, c.transit_number.ensures)
    (simp (c.arc_to_sine-arc.ensures, altitude_sine)
    (simp c.solar_altitude-altitude.ensures))
