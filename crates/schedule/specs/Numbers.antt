-- schedule.rs: the hour numbers that PrayerTimes::new needs, from date, place and parameters. They are those of the sun on the date and on
-- the next two days, and those of Fajr, Asr and Isha.
use Rattle.std.specs.Prelude.{true, false, pos, Float}
use Rattle.std.specs.Float.{binary64}
use Rattle.std.specs.Float.Ieee.{neg, of_int}
use Rattle.calendar.specs.Answers.{tomorrow_of}
use Rattle.calendar.specs.declared.dates.Date.{Date}
use Rattle.models.specs.declared.parameters.Parameters.{Parameters}
use Rattle.models.specs.Numbers.{madhab_number_of}
use Rattle.solar.specs.Hours.{sun_on, hour_numbers_of, angle_number_of, afternoon_number_of}
use Rattle.unit.specs.declared.Angle.{Angle}
use Rattle.unit.specs.declared.Coordinates.{Coordinates}
use Rattle.unit.specs.Unit.{angle_of}
use Rattle.schedule.specs.declared.hours.RowNumbers.{RowNumbers}

-- `Angle::new(-parameters.fajr_angle)` and isha_angle's
abbrev pub fajr_angle_of : Parameters → Angle
fajr_angle_of p = angle_of (neg p.fajr_angle)

abbrev pub isha_angle_of : Parameters → Angle
isha_angle_of p = angle_of (neg p.isha_angle)

-- `parameters.madhab.shadow().into()`
abbrev pub shadow_of : Parameters → Float
shadow_of p = of_int binary64 (pos (madhab_number_of p.madhab))

-- "Tomorrow's Fajr is worked as the next date's, from that date's sun and the night after it"
unfoldable pub numbers_of : Date → Coordinates → Parameters → RowNumbers
numbers_of date place p =
    let today = sun_on place date in
    let tomorrow = sun_on place (tomorrow_of date) in
    let after = sun_on place (tomorrow_of (tomorrow_of date)) in
    record {
      today = hour_numbers_of today;
      tomorrow = hour_numbers_of tomorrow;
      after = hour_numbers_of after;
      fajr = angle_number_of today (fajr_angle_of p) false;
      asr = afternoon_number_of today (shadow_of p);
      isha = angle_number_of today (isha_angle_of p) true;
      fajr_tomorrow = angle_number_of tomorrow (fajr_angle_of p) false;
    }
