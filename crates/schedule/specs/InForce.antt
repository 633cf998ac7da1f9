-- schedule.rs: the prayer in force at an instant, the next one, and the time until it.
use Rattle.std.specs.Prelude.{◌≡◌, ℕ, zero, suc, ◌/◌, ◌≤◌, true, cond, ◌⊎◌, ℤ, pos, ◌+ℤ◌, ◌-ℤ◌, ◌*ℤ◌, ◌==◌, int_lt, None, Option, Some}
use Rattle.std.specs.Float.{binary64}
use Rattle.std.specs.Float.Ieee.{of_int, to_unsigned}
use Rattle.integers.specs.Parts.{P}
use Rattle.float64.specs.Ops.{◌-ᶠ◌, ◌*ᶠ◌, ◌/ᶠ◌, dec}
use Rattle.float64.specs.Whole.{trunc_of, round_of}
use Rattle.models.specs.declared.prayer.Prayer.{Prayer}
use Rattle.models.specs.declared.prayer.Prayer.TheVariants.{Fajr, Sunrise, Dhuhr, Asr, Maghrib, Isha, Qiyam, FajrTomorrow}
use Rattle.models.specs.Numbers.{prayer_number_of, prayer_of}
use Rattle.schedule.specs.declared.in_force.Instant.{Instant}
use Rattle.schedule.specs.declared.in_force.HoursMinutes.{HoursMinutes}
use Rattle.schedule.specs.declared.prayer_times.PrayerTimes.{PrayerTimes}

unfoldable pub time_of : PrayerTimes → Prayer → ℤ
time_of t Fajr = t.fajr
time_of t Sunrise = t.sunrise
time_of t Dhuhr = t.dhuhr
time_of t Asr = t.asr
time_of t Maghrib = t.maghrib
time_of t Isha = t.isha
time_of t Qiyam = t.qiyam
time_of t FajrTomorrow = t.fajr_tomorrow

abbrev pub in_second : ℕ
in_second = 1000000000

-- an instant in nanoseconds
unfoldable pub nanoseconds_of : Instant → ℤ
nanoseconds_of i = i.seconds *ℤ pos in_second +ℤ pos i.nanoseconds

-- j is not after i, "ordered by whole seconds, then nanoseconds": it has fewer seconds, or the same seconds and no more nanoseconds
abbrev pub NotAfter : Instant → Instant → Type 0
NotAfter j i = (int_lt j.seconds i.seconds ≡ true) ⊎ ((j.seconds ≡ i.seconds) × (j.nanoseconds ≤ i.nanoseconds))

-- `signed_duration_since(now).num_seconds()`, "passed, 0": whole seconds from an instant to a time
unfoldable pub ahead_of : ℤ → Instant → ℕ
ahead_of t i = P (t *ℤ pos in_second -ℤ nanoseconds_of i) / in_second

-- "the last in the list .. whose instant lies less than one second ahead; else none", among its first n
unfoldable pub last_of : PrayerTimes → Instant → ℕ → Option Prayer
last_of t i zero = None
last_of t i (suc n) = cond (ahead_of (time_of t (prayer_of (suc n))) i == 0) (Some (prayer_of (suc n))) (last_of t i n)

abbrev pub current_time_of : PrayerTimes → Instant → Option Prayer
current_time_of t i = last_of t i 8

-- its number in the list of eight: Fajr is 1, and "none" is 0, before Fajr
unfoldable pub current_number_of : Option Prayer → ℕ
current_number_of (Some prayer) = prayer_number_of prayer
current_number_of None = 0

-- "Next after FajrTomorrow is FajrTomorrow."
abbrev pub following_of : Prayer → Prayer
following_of Fajr = Sunrise
following_of Sunrise = Dhuhr
following_of Dhuhr = Asr
following_of Asr = Maghrib
following_of Maghrib = Isha
following_of Isha = Qiyam
following_of Qiyam = FajrTomorrow
following_of FajrTomorrow = FajrTomorrow

unfoldable pub following_current_of : Option Prayer → Option Prayer
following_current_of (Some prayer) = Some (following_of prayer)
following_current_of None = None

abbrev pub next_of : PrayerTimes → Instant → Option Prayer
next_of t i = following_current_of (current_time_of t i)

-- seconds as hours and minutes, by the crate's `whole`, `fract` and casts: "`time_remaining` in 3,599 s is 0 hours 60 minutes"
unfoldable pub hours_minutes_of : ℕ → HoursMinutes
unfolding dec
hours_minutes_of seconds =
    let whole = of_int binary64 (pos seconds) /ᶠ dec 60 0 /ᶠ dec 60 0 in
    let fract = whole -ᶠ trunc_of whole in
    record { hours = to_unsigned 32 (trunc_of whole); minutes = to_unsigned 32 (round_of (fract *ᶠ dec 60 0)) }

unfoldable pub until_of : PrayerTimes → Instant → Option Prayer → Option HoursMinutes
until_of t i (Some prayer) = Some (hours_minutes_of (ahead_of (time_of t prayer) i))
until_of t i None = None

abbrev pub time_remaining_of : PrayerTimes → Instant → Option HoursMinutes
time_remaining_of t i = until_of t i (next_of t i)
