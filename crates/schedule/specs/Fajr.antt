-- A date's Fajr by itself, in seconds from 0h of the date. `fajr_alone_of` need not be believed: proofs/FajrLaws.antt proves that it is the
-- Fajr of the nine times.
use Rattle.schedule.specs.declared.prayer_times.PrayerTimes.{PrayerTimes}
use Rattle.refusals.specs.declared.Refusal.{Refusal}
use Rattle.schedule.specs.declared.hours.ThreeSuns.{ThreeSuns}
use Rattle.std.specs.Prelude.{◌-ℤ◌, Err, None, Ok, Option, Result, Some, ℤ}
use Rattle.calendar.specs.declared.dates.Date.{Date}
use Rattle.models.specs.declared.parameters.Parameters.{Parameters}
use Rattle.models.specs.declared.prayer.Prayer.TheVariants as prayer
use Rattle.models.specs.declared.rules.Season.{Season}
use Rattle.schedule.specs.Times.{start_of, final_of}
use Rattle.schedule.specs.Twilight.{unadjusted_fajr_of}

-- the Fajr among a date's times
unfoldable pub fajr_in : Date → Result PrayerTimes Refusal → Option ℤ
fajr_in date (Ok t) = Some (t.fajr -ℤ start_of date)
fajr_in date (Err r) = None

-- the Fajr as the code works it, without the other times
unfoldable pub fajr_alone_of : Result ThreeSuns Refusal → Date → Season → Parameters → Option ℤ → Option ℤ
fajr_alone_of (Err r) date season p hour = None
fajr_alone_of (Ok suns) date season p hour =
    Some (final_of p prayer.Fajr (unadjusted_fajr_of p season date suns.today suns.tomorrow hour))
