-- schedule.rs: PrayerSchedule, the builder of a date's times. Document 01: "`&mut` builders: methods by value".
use Rattle.std.specs.Prelude.{None, Option, Result, Some}
use Rattle.schedule.specs.declared.prayer_times.PrayerTimes.{PrayerTimes}
use Rattle.refusals.specs.declared.Refusal.{Refusal}
use Rattle.calendar.specs.declared.dates.Date.{Date}
use Rattle.models.specs.declared.parameters.Parameters.{Parameters}
use Rattle.models.specs.Chosen.{source_rules, setting_of}
use Rattle.unit.specs.declared.Coordinates.{Coordinates}
use Rattle.schedule.specs.declared.prayer_schedule.PrayerSchedule.{PrayerSchedule}
use Rattle.schedule.specs.Times.{worked_at}

abbrev pub no_schedule : PrayerSchedule
no_schedule = record { date = None; coordinates = None; params = None }

abbrev pub on_of : PrayerSchedule → Date → PrayerSchedule
on_of s d = record { date = Some d; coordinates = s.coordinates; params = s.params }

abbrev pub for_location_of : PrayerSchedule → Coordinates → PrayerSchedule
for_location_of s c = record { date = s.date; coordinates = Some c; params = s.params }

abbrev pub with_configuration_of : PrayerSchedule → Parameters → PrayerSchedule
with_configuration_of s p = record { date = s.date; coordinates = s.coordinates; params = Some p }

-- `Ok(PrayerTimes::new(..))` if all three are there
unfoldable pub calculated_from : Option Date → Option Coordinates → Option Parameters → Option (Result PrayerTimes Refusal)
calculated_from (Some d) (Some c) (Some p) = Some (worked_at d (setting_of c p source_rules))
calculated_from None c p = None
calculated_from (Some d) None p = None
calculated_from (Some d) (Some c) None = None

abbrev pub calculate_of : PrayerSchedule → Option (Result PrayerTimes Refusal)
calculate_of s = calculated_from s.date s.coordinates s.params
