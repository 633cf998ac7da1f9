-- schedule.rs: Fajr and Isha, before their minutes are added. Each is the time of an angle, bounded by a portion of the night or by the
-- season. Times are seconds from 0h of the date.
use Rattle.std.specs.Prelude.{Bool, true, false, cond, ◌&&◌, ℤ, pos, ◌+ℤ◌, ◌-ℤ◌, ◌*ℤ◌, int_lt, Float, None, Option, Some}
use Rattle.std.specs.Float.Ieee.{le}
use Rattle.integers.specs.Ends.{least32, most32}
use Rattle.float64.specs.Ops.{dec}
use Rattle.calendar.specs.Days.{ordinal_of}
use Rattle.calendar.specs.declared.dates.Date.{Date}
use Rattle.models.specs.declared.method.Method.{Method}
use Rattle.models.specs.declared.method.Method.TheVariants.{MuslimWorldLeague, Egyptian, Karachi, UmmAlQura, Dubai, MoonsightingCommittee}
use Rattle.models.specs.declared.method.Method.TheVariants.{NorthAmerica, Kuwait, Qatar, Singapore, Tehran, Turkey, Other}
use Rattle.models.specs.declared.parameters.Parameters.{Parameters}
use Rattle.models.specs.declared.rounding.Rounding.TheVariants.{Nearest}
use Rattle.models.specs.declared.rules.Season.{Season}
use Rattle.models.specs.Settings.{night_portions_of}
use Rattle.whole_minutes.specs.Times.{rounded_of}
use Rattle.night_portions.specs.Portions.{portion_before_of, portion_after_of, seventh_of}
use Rattle.ops.specs.Season.{morning_seconds_of, evening_seconds_of}
use Rattle.solar.specs.declared.times.SolarTime.{SolarTime}

-- a time of the next date, from 0h of this one
abbrev pub next_day_of : ℤ → ℤ
next_day_of t = t +ℤ pos 86400

-- "Night is the next sunrise less sunset"
unfoldable pub night_of : SolarTime → SolarTime → ℤ
night_of today next = next_day_of next.sunrise -ℤ today.sunset

unfoldable pub later_of : ℤ → ℤ → ℤ
later_of a b = cond (int_lt a b) b a

unfoldable pub earlier_of : ℤ → ℤ → ℤ
earlier_of a b = cond (int_lt b a) b a

-- `unwrap_or`: `other` if there is no time
unfoldable pub or_of : Option ℤ → ℤ → ℤ
or_of (Some t) other = t
or_of None other = other

-- "MoonsightingCommittee bounds by season"
abbrev pub by_season_of : Method → Bool
by_season_of MuslimWorldLeague = false
by_season_of Egyptian = false
by_season_of Karachi = false
by_season_of UmmAlQura = false
by_season_of Dubai = false
by_season_of MoonsightingCommittee = true
by_season_of NorthAmerica = false
by_season_of Kuwait = false
by_season_of Qatar = false
by_season_of Singapore = false
by_season_of Tehran = false
by_season_of Turkey = false
by_season_of Other = false

-- "and from latitude 55.0 takes a seventh of the night (whole seconds, cut toward zero) in place of the angle"
unfoldable pub by_seventh_of : Method → Float → Bool
unfolding dec
by_seventh_of method latitude = le (dec 55 0) latitude && by_season_of method

-- the time that is compared with its bound. "Without an angle time the bound serves."
unfoldable pub own_of : Method → Float → ℤ → Option ℤ → ℤ → ℤ
own_of method latitude seventh hour bound = cond (by_seventh_of method latitude) seventh (or_of hour bound)

-- seconds limited to the range of an i32, so that every sum fits. No order's seconds are near its ends (schedule_laws, SunSpans.antt).
unfoldable pub short_of : ℤ → ℤ
short_of z = cond (int_lt most32 z) most32 (cond (int_lt z least32) least32 z)

-- ---- Fajr, from sunrise to its bound
unfoldable pub before_sunrise_of : Parameters → Season → Date → ℤ → ℤ
before_sunrise_of p season date night =
    let seconds = morning_seconds_of season (ordinal_of date) date.year in
    short_of (cond (by_season_of p.method) seconds (portion_before_of (night_portions_of p).fajr night))

abbrev pub fajr_bound_of : Parameters → Season → Date → SolarTime → ℤ → ℤ
fajr_bound_of p season date today night = today.sunrise +ℤ before_sunrise_of p season date night

-- "Unadjusted Fajr is the later of its angle's time and the night bound"
unfoldable pub unadjusted_fajr_of : Parameters → Season → Date → SolarTime → SolarTime → Option ℤ → ℤ
unadjusted_fajr_of p season date today next hour =
    let night = night_of today next in
    let bound = fajr_bound_of p season date today night in
    later_of (own_of p.method season.latitude (today.sunrise -ℤ seventh_of night) hour bound) bound

-- ---- Isha, from sunset to its bound
unfoldable pub after_sunset_of : Parameters → Season → Date → ℤ → ℤ
after_sunset_of p season date night =
    let seconds = evening_seconds_of season (ordinal_of date) date.year p.shafaq in
    short_of (cond (by_season_of p.method) seconds (portion_after_of (night_portions_of p).isha night))

-- "Only the evening season bound is itself rounded (Nearest)."
unfoldable pub isha_bound_of : Parameters → Season → Date → SolarTime → ℤ → ℤ
isha_bound_of p season date today night =
    let bound = today.sunset +ℤ after_sunset_of p season date night in
    cond (by_season_of p.method) (rounded_of Nearest bound) bound

-- "Isha the earlier"
unfoldable pub bounded_isha_of : Parameters → Season → Date → SolarTime → SolarTime → Option ℤ → ℤ
bounded_isha_of p season date today next hour =
    let night = night_of today next in
    let bound = isha_bound_of p season date today night in
    earlier_of (own_of p.method season.latitude (today.sunset +ℤ seventh_of night) hour bound) bound

-- "An interval above 0 replaces the Isha rule."
unfoldable pub unadjusted_isha_of : Parameters → Season → Date → SolarTime → SolarTime → Option ℤ → ℤ
unadjusted_isha_of p season date today next hour =
    cond (int_lt (pos 0) p.isha_interval) (today.sunset +ℤ p.isha_interval *ℤ pos 60) (bounded_isha_of p season date today next hour)
