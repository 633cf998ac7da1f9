-- The suns that roll from row to row are those that each row would work by itself. Assumes nothing.
use Rattle.prelude.proofs.Logic.{◌≡◌, sym, ap, subst, ◌∙◌, true, ◌+◌, ◌≤◌, ◌<◌, arith, cases}
use Rattle.calendar.proofs.Calendar.{tomorrow_of, from_of, exists_of, back, year_after}
use Rattle.calendar.proofs.Successors.{tomorrow-is, tomorrow-exists}
use Rattle.calendar.specs.Answers.{yesterday_of}
use Rattle.calendar.specs.declared.dates.Date.{Date}
use Rattle.models.specs.declared.setting.Setting.{Setting}
use Rattle.models.specs.Chosen.{season_of}
use Rattle.julian.proofs.JulianLaws.{julian_tomorrow}
use Rattle.schedule.proofs.Schedule.{fajr-alone, fajr_in, hours_of, numbers_of, since_of, started_in, row_shared, since-unasked}
use Rattle.schedule.specs.Times.{since_at, worked_at}
use Rattle.schedule.specs.declared.hours.RowHours.{RowHours}
use Rattle.schedule.specs.declared.rolling.RowSuns.{RowSuns}
use Rattle.schedule.specs.RowSuns.{courses_of, day_sun_of, row_suns_of, next_row_suns_of, row_suns_hours_of, row_suns_since_of, row_suns_worked_of}
use Rattle.schedule.specs.RowSuns.{row_suns_fajr_of}

-- the day before a date's tomorrow is the date, in all years but the last that a u32 holds; a date that does not exist is its own neighbour
pub back_to : (date : Date) → date.year < 4294967295 → yesterday_of (tomorrow_of date) ≡ date
unfolding from_of
back_to date l = cases (exists_of date) (λ there. back date there (omega arith)) (λ lacks. simp (lacks))

-- the times of the first row are those of its date
pub first_since : (date : Date) (s : Setting) → row_suns_since_of s (row_suns_of date s) ≡ since_at date s
unfolding row_suns_of
first_since date s =
    let p = s.parameters in
    ap (λ (h : RowHours). since_of h date (season_of s) p) (row_shared date s)
    ∙ since-unasked (hours_of s.rules.midnight (numbers_of date s.coordinates p)) date (season_of s) p

pub first_row : (date : Date) (s : Setting) → row_suns_worked_of s (row_suns_of date s) ≡ worked_at date s
unfolding row_suns_of
first_row date s = ap (started_in date) (first_since date s)

-- the Fajr that suns give by itself is the Fajr of the nine times that they give
pub suns_fajr : (s : Setting) (r : RowSuns) → row_suns_fajr_of s r ≡ fajr_in r.date (row_suns_worked_of s r)
unfolding row_suns_fajr_of row_suns_hours_of
suns_fajr s r = fajr-alone (row_suns_hours_of s r) r.date (season_of s) s.parameters

-- a date whose tomorrow has another day exists
pub moves : (date : Date) → (date.day ≡ (tomorrow_of date).day → ⊥) → exists_of date ≡ true
unfolding from_of
moves date other = cases (exists_of date) (λ there. there) (λ lacks. absurd (other (simp (lacks))))

-- a date's tomorrow exists, in the date's year or the next
follows : (d : Date) → exists_of d ≡ true → d.year < 4294967295
    → (exists_of (tomorrow_of d) ≡ true) × ((d.year ≤ (tomorrow_of d).year) × ((tomorrow_of d).year ≤ d.year + 1))
follows d h l =
    let is = tomorrow-is d h (omega arith) in
    (tomorrow-exists d h (omega arith), subst (λ (e : Date). (d.year ≤ e.year) × (e.year ≤ d.year + 1)) (sym is) (year_after d))

-- the next row's suns are those of the next date, in the years of an order
pub rolls : (date : Date) (s : Setting) → exists_of date ≡ true → 1899 ≤ date.year → date.year ≤ 2199
    → next_row_suns_of s (row_suns_of date s) ≡ row_suns_of (tomorrow_of date) s
unfolding next_row_suns_of row_suns_of courses_of day_sun_of
rolls date s h from to =
    let next = tomorrow_of date in
    let second = tomorrow_of next in
    let a = follows date h (omega arith) in
    let b = follows next a.0 (omega arith) in
    let c = follows second b.0 (omega arith) in
    let fourth = julian_tomorrow (tomorrow_of second) c.0 (omega arith) (omega arith) in
    simp (back_to second (omega arith), fourth)
