-- Document 01: "A host program in C calls the port on numbers and bytes", "A refusal gives number and place, no times". If the call is not
-- refused, number and place are 0. If it is refused, every other field is 0.
use Rattle.schedule.specs.declared.in_force.HoursMinutes.{HoursMinutes}
use Rattle.models.specs.declared.prayer.Prayer.{Prayer}
use Rattle.schedule.specs.declared.prayer_times.PrayerTimes.{PrayerTimes}
use Rattle.refusals.specs.declared.Refusal.{Refusal}
use Rattle.std.specs.Prelude.{ℕ, ◌+◌, ◌*◌, List, Err, Ok, Option, Result}
use Rattle.models.specs.Numbers.{prayer_number_of}
use Rattle.refusals.specs.Refusals.{no_refusal}
use Rattle.schedule.specs.InForce.{current_number_of}
use Rattle.schedule.specs.Times.{no_times}
use Rattle.schedule.specs.declared.in_force.Instant.{Instant}
use Rattle.days.specs.Calls.{work_day_of, prayer_at_of}
use Rattle.katchidul.specs.declared.work_day.KatchidulDay.{KatchidulDay}
use Rattle.katchidul.specs.declared.prayer_at.KatchidulPrayer.{KatchidulPrayer}
use Rattle.katchidul.specs.declared.remaining_at.KatchidulRemaining.{KatchidulRemaining}

-- ---- the version: the header's major number, 1, and its minor number, 0
abbrev pub version : ℕ
version = 1 * 65536 + 0

-- ---- a day
unfoldable pub day_answer_of : Result PrayerTimes Refusal → KatchidulDay
day_answer_of (Ok t) = record { refusal = no_refusal; times = t }
day_answer_of (Err r) = record { refusal = r; times = no_times }

abbrev pub day_got : List ℕ → ℕ → KatchidulDay
day_got s row = day_answer_of (work_day_of s row)

-- ---- a prayer: "else none", which is 0 and no refusal
unfoldable pub prayer_answer_of : Result (Option Prayer) Refusal → KatchidulPrayer
prayer_answer_of (Ok p) = record { refusal = no_refusal; prayer = current_number_of p }
prayer_answer_of (Err r) = record { refusal = r; prayer = 0 }

abbrev pub prayer_got : List ℕ → ℕ → Instant → KatchidulPrayer
prayer_got s row i = prayer_answer_of (prayer_at_of s row i)

unfoldable pub next_answer_of : Result Prayer Refusal → KatchidulPrayer
next_answer_of (Ok p) = record { refusal = no_refusal; prayer = prayer_number_of p }
next_answer_of (Err r) = record { refusal = r; prayer = 0 }

-- ---- the time until the next one: "0 hours 60 minutes; passed, 0 and 0"
unfoldable pub remaining_answer_of : Result HoursMinutes Refusal → KatchidulRemaining
remaining_answer_of (Ok t) = record { refusal = no_refusal; time = t }
remaining_answer_of (Err r) = record { refusal = r; time = record { hours = 0; minutes = 0 } }
