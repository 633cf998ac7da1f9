-- The hour numbers of a course are those of the source's calls on its three positions. Assumes nothing.
use Rattle.prelude.proofs.Logic.{◌≡◌, Bool, true, false}
use lib.Ieee.{Float}
use Rattle.unit.specs.declared.Angle.{Angle}
use Rattle.ops.specs.declared.transit.Course.{Course}
use Rattle.ops.specs.Shared.{place_of, sidereal_time_of, observer_of, transit_from_of, course_of, course_transit_number_of}
use Rattle.ops.specs.Transit.{approximate_transit_of}
use Rattle.ops.proofs.SharedLaws.{transit-shared, hour-number-shared}
use Rattle.solar.specs.Hours.{Sun, approx_transit_of, solar_altitude, transit_number_of, angle_number_of, hour_numbers_of, shadow_angle_of}
use Rattle.solar.specs.Hours.{afternoon_number_of}
use Rattle.solar.specs.Shared.{course_angle_number_of, course_numbers_of, course_afternoon_number_of}

-- the course that the code computes from the three positions
abbrev pub course_of_sun : Sun → Course
course_of_sun s =
    course_of (observer_of s.place) (sidereal_time_of s.today) (place_of s.previous) (place_of s.today) (place_of s.next)

module _ (s : Sun) where
  transit-number-shared : course_transit_number_of (course_of_sun s) ≡ transit_number_of s
  unfolding transit_number_of approximate_transit_of transit_from_of
  transit-number-shared =
      transit-shared (approx_transit_of s) s.place (sidereal_time_of s.today) (place_of s.previous) (place_of s.today)
      (place_of s.next)

  pub angle-shared : (angle : Angle) (after : Bool) → course_angle_number_of (course_of_sun s) angle after ≡ angle_number_of s angle after
  unfolding course_angle_number_of angle_number_of approximate_transit_of transit_from_of
  angle-shared angle after = hour-number-shared (approx_transit_of s) s.place (sidereal_time_of s.today) (place_of s.previous)
      (place_of s.today) (place_of s.next) angle after

  pub numbers-shared : course_numbers_of (course_of_sun s) ≡ hour_numbers_of s
  unfolding course_numbers_of hour_numbers_of
  numbers-shared = simp (transit-number-shared, angle-shared solar_altitude false, angle-shared solar_altitude true)

  pub afternoon-shared : (shadow : Float) → course_afternoon_number_of (course_of_sun s) s.place.latitude shadow ≡ afternoon_number_of s shadow
  unfolding course_afternoon_number_of afternoon_number_of
  afternoon-shared shadow = angle-shared (shadow_angle_of s.place.latitude s.today.declination.degrees shadow) true
