-- This file need not be believed: what rolls is a working value, and proofs/RowSunsLaws.antt says that in the years of an order it is what
-- each row's own date gives.
use Rattle.std.specs.Prelude.{Option, Result, ℤ}
use Rattle.schedule.specs.declared.prayer_times.PrayerTimes.{PrayerTimes}
use Rattle.refusals.specs.declared.Refusal.{Refusal}
use Rattle.schedule.specs.declared.hours.ThreeSuns.{ThreeSuns}
use Rattle.calendar.specs.Answers.{tomorrow_of}
use Rattle.calendar.specs.declared.dates.Date.{Date}
use Rattle.models.specs.declared.rules.Midnight.{Midnight}
use Rattle.models.specs.declared.setting.Setting.{Setting}
use Rattle.models.specs.Chosen.{season_of}
use Rattle.float64.specs.Ops.{◌+ᶠ◌, dec}
use Rattle.julian.specs.Julian.{date_julian_day_of}
use Rattle.ops.specs.declared.transit.Course.{Course}
use Rattle.ops.specs.Coordinates.{solar_coordinates_of, position_of}
use Rattle.ops.specs.Shared.{place_of, sidereal_time_of, course_of}
use Rattle.solar.specs.Times.{solar_time_of}
use Rattle.solar.specs.Shared.{date_course_of, course_numbers_of}
use Rattle.schedule.specs.declared.hours.RowHours.{RowHours}
use Rattle.unit.specs.declared.Coordinates.{Coordinates}
use Rattle.schedule.specs.declared.rolling.Courses.{Courses}
use Rattle.schedule.specs.declared.rolling.DaySun.{DaySun}
use Rattle.schedule.specs.declared.rolling.RowSuns.{RowSuns}
use Rattle.schedule.specs.Asked.{twilight_sines_of, fajr_hour_of, asr_hour_of, isha_hour_of}
use Rattle.schedule.specs.Fajr.{fajr_alone_of}
use Rattle.schedule.specs.Hours.{numbered_of, suns_of}
use Rattle.schedule.specs.Times.{since_of, started_in}

-- those of a date and of the two days after it
unfoldable pub courses_of : Date → Coordinates → Courses
courses_of date place =
    let next = tomorrow_of date in
    let second = tomorrow_of next in
    let third = tomorrow_of second in
    record {
      today = date_course_of date place;
      tomorrow = date_course_of next place;
      after = date_course_of second place;
      third = date_julian_day_of third;
      at_second = place_of (position_of second);
      at_third = place_of (position_of third);
    }

unfoldable pub day_sun_of : Midnight → Course → DaySun
day_sun_of rule course = record { course = course; times = numbered_of (solar_time_of rule (course_numbers_of course)) }

-- a row's, from its date
unfoldable pub row_suns_of : Date → Setting → RowSuns
row_suns_of date s =
    let rule = s.rules.midnight in
    let sines = twilight_sines_of s.parameters in
    let courses = courses_of date s.coordinates in
    record {
      date = date;
      third = courses.third;
      sines = sines;
      at_second = courses.at_second;
      at_third = courses.at_third;
      today = day_sun_of rule courses.today;
      tomorrow = day_sun_of rule courses.tomorrow;
      after = day_sun_of rule courses.after;
      fajr = fajr_hour_of s sines.fajr courses.today;
      fajr_tomorrow = fajr_hour_of s sines.fajr courses.tomorrow;
    }

-- the next row's, from this one's: one new position and one new sun
unfoldable pub next_row_suns_of : Setting → RowSuns → RowSuns
next_row_suns_of s r =
    let fourth = r.third +ᶠ dec 1 0 in
    let at_fourth = place_of (solar_coordinates_of fourth) in
    let sidereal = sidereal_time_of (solar_coordinates_of r.third) in
    let course = r.after.course in
    record {
      date = tomorrow_of r.date;
      third = fourth;
      sines = r.sines;
      at_second = r.at_third;
      at_third = at_fourth;
      today = r.tomorrow;
      tomorrow = r.after;
      after = day_sun_of s.rules.midnight (course_of course.observer sidereal r.at_second r.at_third at_fourth);
      fajr = r.fajr_tomorrow;
      fajr_tomorrow = fajr_hour_of s r.sines.fajr course;
    }

abbrev pub three_suns_of : RowSuns → Result ThreeSuns Refusal
three_suns_of r = suns_of r.today.times r.tomorrow.times r.after.times

-- the sun's times that the row is worked from
unfoldable pub row_suns_hours_of : Setting → RowSuns → RowHours
row_suns_hours_of s r =
    record {
      suns = three_suns_of r;
      fajr = r.fajr;
      asr = asr_hour_of s r.today.course;
      isha = isha_hour_of s r.sines.isha r.today.course;
      fajr_tomorrow = r.fajr_tomorrow;
    }

-- the row's day, in seconds from 0h of its date
abbrev pub row_suns_since_of : Setting → RowSuns → Result PrayerTimes Refusal
row_suns_since_of s r = since_of (row_suns_hours_of s r) r.date (season_of s) s.parameters

-- from 1970 on
abbrev pub row_suns_worked_of : Setting → RowSuns → Result PrayerTimes Refusal
row_suns_worked_of s r = started_in r.date (row_suns_since_of s r)

-- the row's Fajr by itself
unfoldable pub row_suns_fajr_of : Setting → RowSuns → Option ℤ
row_suns_fajr_of s r = fajr_alone_of (three_suns_of r) r.date (season_of s) s.parameters r.fajr
