-- This file need not be believed: what functions promise of each of the nine.
use Rattle.refusals.specs.declared.Refusal.{Refusal}
use Rattle.std.specs.Prelude.{◌^◌, ℤ, Err, Ok, Result}
use Rattle.integers.specs.Parts.{Near}
use Rattle.schedule.specs.declared.prayer_times.PrayerTimes.{PrayerTimes}

pub record Each (C : ℤ → Type 0) (t : PrayerTimes) : Type 0 where
  pub fajr : C t.fajr
  pub sunrise : C t.sunrise
  pub dhuhr : C t.dhuhr
  pub asr : C t.asr
  pub maghrib : C t.maghrib
  pub isha : C t.isha
  pub middle_of_the_night : C t.middle_of_the_night
  pub qiyam : C t.qiyam
  pub fajr_tomorrow : C t.fajr_tomorrow

-- the times, if there are any, are so near to 0h that the start of any date can be added
unfoldable pub NearIn : Result PrayerTimes Refusal → Type 0
NearIn (Ok t) = Each (Near (2 ^ 43)) t
NearIn (Err r) = Unit {0}
