-- 0h of any date whose year is a u32 is within 2 ^ 58 seconds of 1970. Assumes nothing.
use Rattle.prelude.proofs.Logic.{ℕ, ◌+◌, ◌*◌, ◌^◌, ◌≤◌, ◌<◌, arith, pos, ◌-ℤ◌, ◌*ℤ◌}
use Rattle.integers.proofs.Integers.{Near, difference, times}
use Rattle.calendar.proofs.Calendar.{days_before_year_of, ordinal_of, day_number_of, ordinal_short}
use Rattle.calendar.specs.declared.dates.Date.{Date}

years : (y : ℕ) → y < 2 ^ 32 → days_before_year_of y ≤ 367 * 2 ^ 32
unfolding days_before_year_of
years y h = omega arith

pub start_near : (d : Date) → d.year < 2 ^ 32 → Near (2 ^ 58) (day_number_of d *ℤ pos 86400)
unfolding day_number_of
start_near d h =
    let y = years d.year h in
    let o = ordinal_short d in
    let b = difference (pos (days_before_year_of d.year + ordinal_of d)) (pos 719529) in
    let t = times (pos (days_before_year_of d.year + ordinal_of d) -ℤ pos 719529) 86400 in
    record { from = omega (arith, b.0, b.1); to = omega (arith, b.0, b.1) }
