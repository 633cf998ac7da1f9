-- Document 01, "What each call owes": what each call returns for the bytes of an order, a row and an instant. "Buffer and instant are
-- checked before anything else in their calls. Then the order is read, then the row .. Then comes the day, then 11."
use Rattle.schedule.specs.declared.in_force.HoursMinutes.{HoursMinutes}
use Rattle.models.specs.declared.prayer.Prayer.{Prayer}
use Rattle.schedule.specs.declared.prayer_times.PrayerTimes.{PrayerTimes}
use Rattle.std.specs.Prelude.{ℕ, ◌-◌, Bool, ◌&&◌, cond, List, ltb, leb, ℤ, pos, negsuc, Err, None, Ok, Option, Result, Some}
use Rattle.std.specs.Int.Signed.{le_z}
use Rattle.refusals.specs.Refusals.{refusal, out_of_range, instant_beyond, none_in_force}
use Rattle.refusals.specs.declared.Refusal.{Refusal}
use Rattle.calendar.specs.Answers.{row_date_of}
use Rattle.calendar.specs.declared.dates.Date.{Date}
use Rattle.fields.specs.Tags.{rows_tag}
use Rattle.order.specs.declared.reading.Order.{Order}
use Rattle.order.specs.Reading.{reading_of}
use Rattle.schedule.specs.declared.in_force.Instant.{Instant}
use Rattle.schedule.specs.InForce.{in_second, current_time_of, next_of, time_remaining_of}
use Rattle.schedule.specs.Times.{since_at, worked_at}

-- ---- a day
abbrev pub work_date_of : Order → Date → Result PrayerTimes Refusal
work_date_of order date = worked_at date order.setting

-- in seconds from 0h of the date; once the date's 0h is added they are those of `work_date_of`
abbrev pub since_date_of : Order → Date → Result PrayerTimes Refusal
since_date_of order date = since_at date order.setting

-- "rows count from 0, and a row that the order lacks is 5, place 3"
abbrev pub lacks_row : Refusal
lacks_row = refusal out_of_range rows_tag

unfoldable pub work_row_of : Order → ℕ → Result PrayerTimes Refusal
work_row_of order row = cond (ltb row order.rows) (work_date_of order (row_date_of order.date row)) (Err lacks_row)

-- "A refusal gives number and place, no times"
unfoldable pub work_reading_of : Result Order Refusal → ℕ → Result PrayerTimes Refusal
work_reading_of (Ok order) row = work_row_of order row
work_reading_of (Err r) row = Err r

unfoldable pub work_day_of : List ℕ → ℕ → Result PrayerTimes Refusal
work_day_of s row = work_reading_of (reading_of s) row

-- ---- an instant
abbrev pub instant_of : ℤ → ℕ → Instant
instant_of seconds nanoseconds = record { seconds = seconds; nanoseconds = nanoseconds }

-- 10 is "an instant's whole seconds beyond ±10^12, or its nanoseconds over 999,999,999"
abbrev pub least_seconds : ℤ
least_seconds = negsuc 999999999999

abbrev pub most_seconds : ℤ
most_seconds = pos 1000000000000

abbrev pub most_nanoseconds : ℕ
most_nanoseconds = in_second - 1

unfoldable pub instant_fits : Instant → Bool
instant_fits i = le_z least_seconds i.seconds && le_z i.seconds most_seconds && leb i.nanoseconds most_nanoseconds

unfoldable pub work_at_of : List ℕ → ℕ → Instant → Result PrayerTimes Refusal
work_at_of s row i = cond (instant_fits i) (work_day_of s row) (Err (refusal instant_beyond 0))

-- ---- the prayer in force: "the last in the list .. whose instant lies less than one second ahead; else none"
unfoldable pub in_force_of : Result PrayerTimes Refusal → Instant → Result (Option Prayer) Refusal
in_force_of (Ok t) i = Ok (current_time_of t i)
in_force_of (Err r) i = Err r

unfoldable pub prayer_at_of : List ℕ → ℕ → Instant → Result (Option Prayer) Refusal
prayer_at_of s row i = in_force_of (work_at_of s row i) i

-- ---- the next one. 11 is "next or remaining asked while no prayer is in force"
unfoldable pub next_prayer_in : Option Prayer → Result Prayer Refusal
next_prayer_in (Some prayer) = Ok prayer
next_prayer_in None = Err (refusal none_in_force 0)

unfoldable pub next_prayer_of : Result PrayerTimes Refusal → Instant → Result Prayer Refusal
next_prayer_of (Ok t) i = next_prayer_in (next_of t i)
next_prayer_of (Err r) i = Err r

unfoldable pub next_at_of : List ℕ → ℕ → Instant → Result Prayer Refusal
next_at_of s row i = next_prayer_of (work_at_of s row i) i

-- ---- the time until it
unfoldable pub time_until_in : Option HoursMinutes → Result HoursMinutes Refusal
time_until_in (Some time) = Ok time
time_until_in None = Err (refusal none_in_force 0)

unfoldable pub time_until_of : Result PrayerTimes Refusal → Instant → Result HoursMinutes Refusal
time_until_of (Ok t) i = time_until_in (time_remaining_of t i)
time_until_of (Err r) i = Err r

unfoldable pub remaining_at_of : List ℕ → ℕ → Instant → Result HoursMinutes Refusal
remaining_at_of s row i = time_until_of (work_at_of s row i) i
