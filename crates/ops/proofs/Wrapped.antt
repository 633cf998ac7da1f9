-- The southern count: a difference that wraps, and wraps back. Assumes nothing.
use Rattle.prelude.proofs.Logic.{◌≡◌, Bool, true, false, cond, ℕ, ◌+◌, ◌-◌, ◌%◌, ◌≤◌, arith}
use Rattle.calendar.proofs.Calendar.{leap_of, days_in_year_of}
use Rattle.ops.specs.Season.{southern_offset_of}

within_year : (year : ℕ) → (southern_offset_of year ≤ days_in_year_of year) × (days_in_year_of year ≤ 366)
unfolding southern_offset_of days_in_year_of
within_year year = by-test (leap_of year)
  where
    by-test : (b : Bool) → (cond b 173 172 ≤ cond b 366 365) × (cond b 366 365 ≤ 366)
    by-test true = (omega arith, omega arith)
    by-test false = (omega arith, omega arith)

back : (day days offset : ℕ) → offset ≤ days → days ≤ 366
    → ((day + (4294967296 - offset)) % 4294967296 + days) % 4294967296 ≡ (day + days - offset) % 4294967296
back day days offset l m = omega arith

pub wrapped : (day year : ℕ)
    → ((day + (4294967296 - southern_offset_of year)) % 4294967296 + days_in_year_of year) % 4294967296
    ≡ (day + days_in_year_of year - southern_offset_of year) % 4294967296
wrapped day year = let w = within_year year in back day (days_in_year_of year) (southern_offset_of year) w.0 w.1
