-- schedule.rs: the nine times of a date. They are worked in seconds from 0h of the date, and its 0h is added last.
use Rattle.refusals.specs.declared.Refusal.{Refusal}
use Rattle.std.specs.Prelude.{ℤ, pos, ◌+ℤ◌, ◌-ℤ◌, ◌*ℤ◌, Err, Ok, Option, Result}
use Rattle.calendar.specs.Answers.{tomorrow_of}
use Rattle.calendar.specs.Days.{day_number_of}
use Rattle.calendar.specs.declared.dates.Date.{Date}
use Rattle.models.specs.declared.parameters.Parameters.{Parameters}
use Rattle.models.specs.declared.prayer.Prayer.{Prayer}
use Rattle.models.specs.declared.prayer.Prayer.TheVariants.{Fajr, Sunrise, Dhuhr, Asr, Maghrib, Isha}
use Rattle.models.specs.declared.rounding.Rounding.TheVariants.{Nearest}
use Rattle.models.specs.declared.rules.Season.{Season}
use Rattle.models.specs.declared.setting.Setting.{Setting}
use Rattle.models.specs.Chosen.{season_of}
use Rattle.models.specs.Settings.{time_adjustments_of}
use Rattle.whole_minutes.specs.Times.{rounded_of, adjusted_of}
use Rattle.night_portions.specs.Portions.{middle_of, last_third_of}
use Rattle.solar.specs.declared.times.SolarTime.{SolarTime}
use Rattle.schedule.specs.declared.hours.ThreeSuns.{ThreeSuns}
use Rattle.schedule.specs.declared.hours.RowHours.{RowHours}
use Rattle.schedule.specs.declared.hours.RowNumbers.{RowNumbers}
use Rattle.schedule.specs.declared.prayer_times.PrayerTimes.{PrayerTimes}
use Rattle.schedule.specs.Hours.{hours_of}
use Rattle.schedule.specs.Numbers.{numbers_of}
use Rattle.schedule.specs.Twilight.{next_day_of, or_of, unadjusted_fajr_of, unadjusted_isha_of}

-- a date's 0h, in seconds from 1970-01-01 0h
unfoldable pub start_of : Date → ℤ
start_of date = day_number_of date *ℤ pos 86400

-- "Fajr, sunrise, dhuhr, asr, maghrib, isha add their minutes (own plus method's), then round."
unfoldable pub final_of : Parameters → Prayer → ℤ → ℤ
final_of p prayer t = rounded_of p.rounding (adjusted_of t (time_adjustments_of p prayer))

-- "Tomorrow's Fajr is worked as the next date's, from that date's sun and the night after it; it is adjusted, not rounded."
unfoldable pub fajr_tomorrow_of : Parameters → Season → Date → SolarTime → SolarTime → Option ℤ → ℤ
fajr_tomorrow_of p season date tomorrow after hour =
    next_day_of (adjusted_of (unadjusted_fajr_of p season (tomorrow_of date) tomorrow after hour) (time_adjustments_of p Fajr))

-- "Middle of night and qiyam start at rounded maghrib, go 1/2 and 2.0/3.0 (f64) of the seconds to tomorrow's Fajr, cut toward zero, and
-- round to Nearest."
unfoldable pub middle_of_the_night_of : ℤ → ℤ → ℤ
middle_of_the_night_of maghrib tomorrow = rounded_of Nearest (maghrib +ℤ middle_of (tomorrow -ℤ maghrib))

unfoldable pub qiyam_of : ℤ → ℤ → ℤ
qiyam_of maghrib tomorrow = rounded_of Nearest (maghrib +ℤ last_third_of (tomorrow -ℤ maghrib))

-- the nine times in seconds from 0h of the date
unfoldable pub from_midnight_of : Parameters → Season → Date → ThreeSuns → RowHours → PrayerTimes
from_midnight_of p season date suns h =
    let sun = suns.today in
    let maghrib = final_of p Maghrib sun.sunset in
    let next_fajr = fajr_tomorrow_of p season date suns.tomorrow suns.after h.fajr_tomorrow in
    record {
      fajr = final_of p Fajr (unadjusted_fajr_of p season date sun suns.tomorrow h.fajr);
      sunrise = final_of p Sunrise sun.sunrise;
      dhuhr = final_of p Dhuhr sun.transit;
      -- "Asr without a time is the transit."
      asr = final_of p Asr (or_of h.asr sun.transit);
      maghrib = maghrib;
      isha = final_of p Isha (unadjusted_isha_of p season date sun suns.tomorrow h.isha);
      middle_of_the_night = middle_of_the_night_of maghrib next_fajr;
      qiyam = qiyam_of maghrib next_fajr;
      fajr_tomorrow = next_fajr;
    }

-- the nine times in seconds from 1970 on; the date begins at `start`
unfoldable pub started_of : ℤ → PrayerTimes → PrayerTimes
started_of start t =
    record {
      fajr = start +ℤ t.fajr;
      sunrise = start +ℤ t.sunrise;
      dhuhr = start +ℤ t.dhuhr;
      asr = start +ℤ t.asr;
      maghrib = start +ℤ t.maghrib;
      isha = start +ℤ t.isha;
      middle_of_the_night = start +ℤ t.middle_of_the_night;
      qiyam = start +ℤ t.qiyam;
      fajr_tomorrow = start +ℤ t.fajr_tomorrow;
    }

unfoldable pub started_in : Date → Result PrayerTimes Refusal → Result PrayerTimes Refusal
started_in date (Ok t) = Ok (started_of (start_of date) t)
started_in date (Err r) = Err r

-- a date is refused if one of the three days lacks a time
unfoldable pub since_from : Result ThreeSuns Refusal → RowHours → Date → Season → Parameters → Result PrayerTimes Refusal
since_from (Err r) h date season p = Err r
since_from (Ok three) h date season p = Ok (from_midnight_of p season date three h)

unfoldable pub since_of : RowHours → Date → Season → Parameters → Result PrayerTimes Refusal
since_of h date season p = since_from h.suns h date season p

abbrev pub worked_of : RowHours → Date → Season → Parameters → Result PrayerTimes Refusal
worked_of h date season p = started_in date (since_of h date season p)

abbrev pub worked_by : RowNumbers → Date → Setting → Result PrayerTimes Refusal
worked_by numbers date s = worked_of (hours_of s.rules.midnight numbers) date (season_of s) s.parameters

-- from a date and its setting alone: in seconds from 0h of the date, and from 1970 on
abbrev pub since_at : Date → Setting → Result PrayerTimes Refusal
since_at date s = since_of (hours_of s.rules.midnight (numbers_of date s.coordinates s.parameters)) date (season_of s) s.parameters

abbrev pub worked_at : Date → Setting → Result PrayerTimes Refusal
worked_at date s = started_in date (since_at date s)

-- document 01: "A refusal gives number and place, no times"
abbrev pub no_times : PrayerTimes
no_times =
    let o = pos 0 in
    record { fajr = o; sunrise = o; dhuhr = o; asr = o; maghrib = o; isha = o; middle_of_the_night = o; qiyam = o; fajr_tomorrow = o }
