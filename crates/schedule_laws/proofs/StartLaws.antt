-- The definitions round a time counted from 0h of its date, and add the date last. The papers and the crate count from 1970 on: the rounded
-- time is the same. Assumes nothing.
use Rattle.prelude.proofs.Logic.{◌≡◌, ap, ◌∙◌, arith, ℤ, pos, ◌+ℤ◌, ◌*ℤ◌, +ℤ_comm}
use Rattle.integers.proofs.Integers.{same, times}
use Rattle.calendar.specs.{Days.day_number_of, declared.dates.Date.Date}
use Rattle.models.specs.declared.rounding.Rounding.{Rounding}
use Rattle.whole_minutes.specs.Times.{rounded_of, adjusted_of}
use Rattle.whole_minutes.proofs.TimesLaws.{rounded_adjusted}
use Rattle.schedule.specs.Times.{start_of}

-- 0h of a date is a whole number of minutes from 1970
minutes_to : (date : Date) → start_of date ≡ day_number_of date *ℤ pos 1440 *ℤ pos 60
unfolding start_of
minutes_to date =
    let d = day_number_of date in
    let a = times d 86400 in
    let b = times d 1440 in
    let c = times (d *ℤ pos 1440) 60 in
    same (d *ℤ pos 86400) (d *ℤ pos 1440 *ℤ pos 60) (omega arith)

started : (date : Date) (x : ℤ) → start_of date +ℤ x ≡ adjusted_of x (day_number_of date *ℤ pos 1440)
unfolding adjusted_of
started date x = +ℤ_comm (start_of date) x ∙ ap (λ (z : ℤ). x +ℤ z) (minutes_to date)

pub rounded_from_1970 : (r : Rounding) (date : Date) (x : ℤ) → rounded_of r (start_of date +ℤ x) ≡ start_of date +ℤ rounded_of r x
rounded_from_1970 r date x = rw (started date x, started date (rounded_of r x)) (rounded_adjusted r x (day_number_of date *ℤ pos 1440))
