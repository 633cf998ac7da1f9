-- A row's times from the courses of its three days are those of its hour numbers. Values that are shared change no number, and hours that
-- are left out change no time. Assumes nothing.
use Rattle.std.specs.Prelude.{Err, Ok, Option, Result, ℤ}
use Rattle.refusals.specs.declared.Refusal.{Refusal}
use Rattle.prelude.proofs.Logic.{◌≡◌, refl, ap, true, false, cases, lt_z, pos}
use Rattle.calendar.specs.Answers.{tomorrow_of}
use Rattle.calendar.specs.declared.dates.Date.{Date}
use Rattle.models.specs.declared.parameters.Parameters.{Parameters}
use Rattle.models.specs.declared.rules.Season.{Season}
use Rattle.models.specs.declared.setting.Setting.{Setting}
use Rattle.ops.specs.declared.transit.Course.{Course}
use Rattle.ops.specs.Shared.{half_arc_of}
use Rattle.solar.specs.declared.times.SolarTime.{SolarTime}
use Rattle.solar.specs.Hours.{sun_on}
use Rattle.solar.specs.Shared.{date_course_of, course_sine_number_of, course_angle_number_of}
use Rattle.solar.specs.Times.{solar_hour_of}
use Rattle.solar.proofs.SharedLaws.{angle-shared, numbers-shared, afternoon-shared}
use Rattle.schedule.specs.Asked.{fajr_asked_of, isha_asked_of, asked_of, twilight_sines_of, fajr_hour_of, isha_hour_of}
use Rattle.schedule.specs.declared.hours.RowHours.{RowHours}
use Rattle.schedule.specs.declared.hours.ThreeSuns.{ThreeSuns}
use Rattle.schedule.specs.Hours.{hours_of}
use Rattle.schedule.specs.Numbers.{fajr_angle_of, isha_angle_of, shadow_of, numbers_of}
use Rattle.schedule.specs.RowSuns.{courses_of, day_sun_of, row_suns_of, row_suns_hours_of}
use Rattle.schedule.specs.Times.{fajr_tomorrow_of, from_midnight_of, since_from, since_of}
use Rattle.schedule.specs.Twilight.{by_seventh_of, own_of, unadjusted_fajr_of, bounded_isha_of, unadjusted_isha_of}

-- ---- no time depends on an hour that is left out
module _ (p : Parameters) (season : Season) (date : Date) (today next : SolarTime) (hour : Option ℤ) where
  fajr-unasked : unadjusted_fajr_of p season date today next (fajr_asked_of p season.latitude hour)
      ≡ unadjusted_fajr_of p season date today next hour
  unfolding unadjusted_fajr_of own_of fajr_asked_of
  fajr-unasked = cases (by_seventh_of p.method season.latitude) (λ seventh. rw seventh refl) (λ angle. rw angle refl)

  isha-unasked : unadjusted_isha_of p season date today next (isha_asked_of p season.latitude hour)
      ≡ unadjusted_isha_of p season date today next hour
  unfolding unadjusted_isha_of bounded_isha_of own_of isha_asked_of
  isha-unasked =
      cases (lt_z (pos 0) p.isha_interval) (λ interval. rw interval refl)
      (λ rule. cases (by_seventh_of p.method season.latitude) (λ seventh. rw (rule, seventh) refl) (λ angle. rw (rule, angle) refl))

module _ (h : RowHours) (date : Date) (season : Season) (p : Parameters) where
  abbrev asked : RowHours
  asked = asked_of p season.latitude h

  nine-unasked : (suns : ThreeSuns) → from_midnight_of p season date suns asked ≡ from_midnight_of p season date suns h
  unfolding from_midnight_of fajr_tomorrow_of
  nine-unasked suns =
      simp (
        fajr-unasked p season date suns.today suns.tomorrow h.fajr,
        fajr-unasked p season (tomorrow_of date) suns.tomorrow suns.after h.fajr_tomorrow,
        isha-unasked p season date suns.today suns.tomorrow h.isha,
      )

  by-suns : (suns : Result ThreeSuns Refusal) → since_from suns asked date season p ≡ since_from suns h date season p
  unfolding since_from
  by-suns (Err r) = refl
  by-suns (Ok suns) = ap Ok (nine-unasked suns)

  -- a row's times are the same without the hours that no time needs
  pub since-unasked : since_of asked date season p ≡ since_of h date season p
  unfolding since_of
  since-unasked = by-suns h.suns

-- ---- an hour from the angle's sine is the angle's
module _ (s : Setting) (c : Course) where
  fajr-by-sine : fajr_hour_of s (twilight_sines_of s.parameters).fajr c
      ≡ fajr_asked_of s.parameters s.coordinates.latitude
      (solar_hour_of s.rules.midnight (course_angle_number_of c (fajr_angle_of s.parameters) false))
  unfolding course_sine_number_of course_angle_number_of half_arc_of
  fajr-by-sine = refl

  isha-by-sine : isha_hour_of s (twilight_sines_of s.parameters).isha c
      ≡ isha_asked_of s.parameters s.coordinates.latitude
      (solar_hour_of s.rules.midnight (course_angle_number_of c (isha_angle_of s.parameters) true))
  unfolding course_sine_number_of course_angle_number_of half_arc_of
  isha-by-sine = refl

-- ---- the row
pub row_shared : (date : Date) (s : Setting) → row_suns_hours_of s (row_suns_of date s)
    ≡ asked_of s.parameters s.coordinates.latitude (hours_of s.rules.midnight (numbers_of date s.coordinates s.parameters))
unfolding row_suns_hours_of row_suns_of courses_of day_sun_of hours_of numbers_of
row_shared date s =
    let place = s.coordinates in
    let p = s.parameters in
    let next = tomorrow_of date in
    let today = sun_on place date in
    let tomorrow = sun_on place next in
    let after = sun_on place (tomorrow_of next) in
    simp (
      fajr-by-sine s (date_course_of date place),
      fajr-by-sine s (date_course_of next place),
      isha-by-sine s (date_course_of date place),
      numbers-shared today,
      numbers-shared tomorrow,
      numbers-shared after,
      angle-shared today (fajr_angle_of p) false,
      angle-shared today (isha_angle_of p) true,
      angle-shared tomorrow (fajr_angle_of p) false,
      afternoon-shared today (shadow_of p),
    )
