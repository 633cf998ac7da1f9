-- What several calls share changes no bit of the source's formulas. Assumes nothing.
use Rattle.prelude.proofs.Logic.{◌≡◌, refl, Bool}
use Rattle.float64.proofs.Floats.{Float}
use Rattle.unit.specs.declared.Angle.{Angle}
use Rattle.unit.specs.declared.Coordinates.{Coordinates}
use Rattle.unit.specs.Unit.{longitude_angle_of}
use Rattle.ops.specs.declared.coordinates.Equatorial.{Equatorial}
use Rattle.ops.specs.declared.transit.Course.{Course}
use Rattle.ops.specs.Coordinates.{solar_coordinates_of}
use Rattle.ops.specs.Transit.{interpolate_of, interpolate_angles_of, altitude_of_celestial_body_of, hour_angle_at_of, corrected_transit_of}
use Rattle.ops.specs.Transit.{corrected_hour_angle_of}
use Rattle.ops.specs.Shared.{interpolated_of, observer_of, course_through_of, hour_angle_of, course_transit_number_of, arc_to_sine_of, half_arc_of}
use Rattle.ops.specs.Shared.{moved_transit_of, hour_number_of, place_of, sidereal_time_of, mean_elements_of, mean_place_of, mean_sidereal_of}

pub mean_place : (day : Float) → mean_place_of (mean_elements_of day) ≡ place_of (solar_coordinates_of day)
unfolding mean_place_of solar_coordinates_of
mean_place day = refl

pub mean_sidereal : (day : Float) → mean_sidereal_of (mean_elements_of day) ≡ sidereal_time_of (solar_coordinates_of day)
unfolding mean_sidereal_of solar_coordinates_of
mean_sidereal day = refl

module _ (transit : Float) (place : Coordinates) (sidereal : Angle) (previous today next : Equatorial) where
  abbrev course : Course
  course = course_through_of transit (observer_of place) sidereal previous today next

  pub transit-shared : course_transit_number_of course
      ≡ corrected_transit_of transit (longitude_angle_of place) sidereal
      today.right_ascension previous.right_ascension next.right_ascension
  unfolding course_transit_number_of corrected_transit_of hour_angle_of hour_angle_at_of interpolated_of interpolate_angles_of
  transit-shared = refl

  pub hour-number-shared : (angle : Angle) (after : Bool) → hour_number_of course angle (half_arc_of course angle) after
      ≡ corrected_hour_angle_of transit angle place after sidereal
      today.right_ascension previous.right_ascension next.right_ascension
      today.declination previous.declination next.declination
  unfolding hour_number_of moved_transit_of half_arc_of arc_to_sine_of corrected_hour_angle_of hour_angle_of hour_angle_at_of interpolated_of
      interpolate_angles_of interpolate_of altitude_of_celestial_body_of
  hour-number-shared angle after = refl
