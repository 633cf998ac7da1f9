-- The formula over a course gives the definition's number (`hour-number-shared`).
use Rattle.ops.specs.declared.coordinates.Equatorial.{Equatorial}
use Rattle.unit.specs.declared.Angle.{Angle}
use Rattle.ops.proofs.SharedLaws.{hour-number-shared}
use Rattle.ops.proofs.transit.corrected_hour_angle.Goals as goal

at : Angle → Angle → Equatorial
at declination ascension = record { declination = declination; right_ascension = ascension }

pub returns : goal.returns
unfolding at
returns c =
    let a = c.args in
    simp (
      c.hour_number.ensures,
      c.half_arc.ensures,
      c.through-course.ensures,
      c.new-observer.ensures,
    )
    (hour-number-shared a.approximate_transit a.coordinates a.sidereal_time
    (at a.previous_declination a.previous_right_ascension) (at a.declination a.right_ascension)
    (at a.next_declination a.next_right_ascension) a.angle a.after_transit)
