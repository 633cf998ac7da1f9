-- The marked cases of the definitions, in one table. Each row is a test. One statement says that all of them hold, and antt computes it.
use Rattle.schedule.specs.declared.in_force.HoursMinutes.{HoursMinutes}
use Rattle.models.specs.declared.prayer.Prayer.{Prayer}
use Rattle.std.specs.Prelude.{Bool, true, false, ◌&&◌, List, [], ◌∷◌, T, eqb, ℤ, pos, negsuc, ℕ, Float, None, Option, Some}
use Rattle.std.specs.Int.Signed.{le_z}
use Rattle.std.specs.Float.{nan, binary64}
use Rattle.std.specs.Float.Ieee.{eq, le, lt, add, sub, mul, div, neg, round, of_int, of_bits, to_signed, to_unsigned}
use Rattle.float64.specs.Ops.{dec}
use Rattle.calendar.specs.Gregorian.{date_of, leap_of}
use Rattle.calendar.specs.Days.{days_in_year_of}
use Rattle.julian.specs.Julian.{date_julian_day_of, julian_day_of, from_march_of, year_product_of, month_product_of, correction_of, to_i32_of}
use Rattle.float64.specs.Sizes.{is_normal_of}
use Rattle.float64.specs.Whole.{floor_of, trunc_of, round_of}
use Rattle.models.specs.Numbers.{prayer_number_of, prayer_of}
use Rattle.schedule.specs.declared.in_force.Instant.{Instant}
use Rattle.schedule.specs.declared.prayer_times.PrayerTimes.{PrayerTimes}
use Rattle.schedule.specs.InForce.{time_of, nanoseconds_of, ahead_of, last_of, current_time_of, following_current_of, next_of}
use Rattle.schedule.specs.InForce.{hours_minutes_of, until_of, time_remaining_of}
use Rattle.models.specs.declared.rules.Southern.TheVariants.{StartsAgain}
use Rattle.ops.specs.Season.{days_since_solstice_of, southern_offset_of, southern_count_of, days_by_rule}
use Rattle.solar.specs.Setting.{setting_hour_of, hour_of, hour_adjustment_of, minute_of}
use Rattle.solar.specs.PastMidnight.{has_time_of, carried_of, carried_hour_of}

-- the latitude of a place on the equator, which counts as northern, and of one south of it
abbrev north : Float
north = dec 0 0

abbrev south : Float
south = neg (dec 1 0)

-- the count south of the equator that starts again
abbrev south_again : ℕ → ℕ → ℕ → Bool
south_again day year count = eqb (days_by_rule StartsAgain south day year) count

-- an hour number that gives a time, in seconds from 0h of the date, and one that gives none
abbrev gives : Option ℤ → ℤ → Bool
gives (Some s) t = le_z s t && le_z t s
gives None t = false

abbrev misses : Option ℤ → Bool
misses (Some s) = false
misses None = true

-- eight times, from 4000 on and 4000 seconds apart, and the middle of the night, which is no prayer
abbrev times : PrayerTimes
times =
    record {
      fajr = pos 4000;
      sunrise = pos 8000;
      dhuhr = pos 12000;
      asr = pos 16000;
      maghrib = pos 20000;
      isha = pos 24000;
      middle_of_the_night = pos 26000;
      qiyam = pos 28000;
      fajr_tomorrow = pos 32000;
    }

abbrev instant : ℕ → ℕ → Instant
instant seconds nanoseconds = record { seconds = pos seconds; nanoseconds = nanoseconds }

-- whether this is the n-th prayer of the list, or none if n is 0
abbrev is_numbered : Option Prayer → ℕ → Bool
is_numbered (Some prayer) n = eqb (prayer_number_of prayer) n
is_numbered None n = eqb n 0

abbrev lasts : Option HoursMinutes → ℕ → ℕ → Bool
lasts (Some r) hours minutes = eqb r.hours hours && eqb r.minutes minutes
lasts None hours minutes = false

unfoldable pub marked : List Bool
marked =
    -- the Julian Day, 2451544.5 and 2436115.5
    eq (date_julian_day_of (date_of 2000 1 1)) (dec 24515445 1) ∷
    eq (date_julian_day_of (date_of 1957 10 4)) (dec 24361155 1) ∷
    -- the count of the season, in a common year
    eqb (days_since_solstice_of 354 2025 north) 364 ∷
    eqb (days_since_solstice_of 355 2025 north) 0 ∷
    eqb (days_since_solstice_of 171 2025 south) 364 ∷
    eqb (days_since_solstice_of 172 2025 south) 365 ∷
    eqb (days_since_solstice_of 365 2025 south) 558 ∷
    -- the southern count that starts again: on the solstice, the day before it, the first and the last day of a common and a leap year
    south_again 172 2025 0 ∷
    south_again 171 2025 364 ∷
    south_again 1 2025 194 ∷
    south_again 365 2025 193 ∷
    south_again 173 2024 0 ∷
    south_again 172 2024 365 ∷
    south_again 1 2024 194 ∷
    south_again 366 2024 193 ∷
    -- and the equator stays northern
    eqb (days_by_rule StartsAgain north 172 2025) 182 ∷
    eqb (days_by_rule StartsAgain (neg north) 172 2025) 182 ∷
    -- setting_hour: 05:30, yesterday 23:30, tomorrow 00:15, yesterday 00:00, and three that have no time
    gives (setting_hour_of (dec 55 1)) (pos 19800) ∷
    gives (setting_hour_of (neg (dec 5 1))) (negsuc 1799) ∷
    gives (setting_hour_of (dec 2425 2)) (pos 87300) ∷
    gives (setting_hour_of (neg (dec 25 0))) (negsuc 86399) ∷
    misses (setting_hour_of (dec 0 0)) ∷
    misses (setting_hour_of (dec 23995 3)) ∷
    misses (setting_hour_of (dec 48 0)) ∷
    -- carried past midnight: 00:00 of tomorrow; of the date, from an hour just below 0; of the day after tomorrow, from hour 47.995
    gives (carried_hour_of (dec 23995 3)) (pos 86400) ∷
    gives (carried_hour_of (neg (dec 1 4))) (pos 0) ∷
    gives (carried_hour_of (dec 47995 3)) (pos 172800) ∷
    -- both zeros and the smallest subnormal are 00:00 of the date; yesterday's 00:00 is the first time; hours -25, 48 and NaN have none
    gives (carried_hour_of (dec 0 0)) (pos 0) ∷
    gives (carried_hour_of (neg (dec 0 0))) (pos 0) ∷
    gives (carried_hour_of (of_bits binary64 1)) (pos 0) ∷
    gives (carried_hour_of (neg (dec 24 0))) (negsuc 86399) ∷
    misses (carried_hour_of (neg (dec 25 0))) ∷
    misses (carried_hour_of (dec 48 0)) ∷
    misses (carried_hour_of nan) ∷
    -- and an hour that needs no carrying stays
    gives (carried_hour_of (dec 55 1)) (pos 19800) ∷
    -- Fajr is in force half a second before its time, but not a full second before it
    is_numbered (current_time_of times (instant 3999 500000000)) 1 ∷
    is_numbered (current_time_of times (instant 3999 0)) 0 ∷
    -- next after FajrTomorrow is FajrTomorrow
    is_numbered (next_of times (instant 32000 0)) 8 ∷
    -- `time_remaining` 3,599 s before sunrise is 0 hours 60 minutes; after FajrTomorrow, which is its own next prayer, it is 0 and 0
    lasts (time_remaining_of times (instant 4401 0)) 0 60 ∷
    lasts (time_remaining_of times (instant 32001 0)) 0 0 ∷
    []

unfoldable pub all : List Bool → Bool
all [] = true
all (t ∷ ts) = t && all ts

pub all_hold : T (all marked)
unfolding marked all time_of nanoseconds_of ahead_of last_of following_current_of hours_minutes_of until_of prayer_of trunc_of setting_hour_of hour_of
    hour_adjustment_of minute_of has_time_of carried_of carried_hour_of is_normal_of floor_of round_of to_unsigned dec round of_bits eq le lt add sub mul
    div neg of_int to_signed date_julian_day_of julian_day_of from_march_of year_product_of month_product_of correction_of to_i32_of days_since_solstice_of
    southern_offset_of southern_count_of days_by_rule days_in_year_of leap_of
all_hold = tt
