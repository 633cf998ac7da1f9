-- The code's test for the first day of Ramadan: true for each year's first of month 9, moved by the shift, and for no other day.
-- Assumes nothing.
use Rattle.prelude.proofs.Logic.{◌≡◌, refl, sym, ap, ◌∙◌, true, true≢false, and-eq-true_iff, ℕ, ◌≤◌, arith, eqb, ℤ, pos, negsuc, ◌+ℤ◌, ◌-ℤ◌}
use Rattle.prelude.proofs.Logic.{le_z, eqb-true, cases}
use Rattle.integers.proofs.Integers.{same, sum, difference, le_no}
use Rattle.hijri.specs.Rule.{date_of, leap_of, exists_of}
use Rattle.hijri.specs.Days.{year_start_of, month_start_of, count_of, day_number_of, of_day_of}
use Rattle.hijri.specs.Ramadan.{first_of_ramadan_of, shifted_start_of, opens_ramadan, ramadan_start_of}
use Rattle.hijri.specs.declared.dates.Tabular.{Tabular}
use Rattle.hijri.proofs.MonthSteps.{length_some}
use Rattle.hijri.proofs.Existing.{to_exists}
use Rattle.hijri.proofs.ByCount.{of_day_below, of_day_above}
use Rattle.hijri.proofs.RamadanStart.{first_not, last_not}
use Rattle.hijri.proofs.ThereAndBack.{of_day_back, of_day_forth}

-- 1 Ramadan 1447 is 2026-02-18
pub first_of_1447 : first_of_ramadan_of 1447 ≡ pos 20502
unfolding day_number_of count_of year_start_of month_start_of
first_of_1447 = refl

first_exists : (y : ℕ) → 1 ≤ y → exists_of (date_of y 9 1) ≡ true
first_exists y h = to_exists (date_of y 9 1) (record { year = h; from = omega arith; to = length_some (leap_of y) 8 (omega arith) })

-- the test is true for the first of month 9 plus the shift
pub start_yes : (y : ℕ) → 1 ≤ y → y ≤ 4294967295 → (shift : ℤ) → ramadan_start_of (shifted_start_of y shift) shift ≡ true
unfolding ramadan_start_of
start_yes y l h shift =
    let z = first_of_ramadan_of y in
    let s = sum z shift in
    let d = difference (z +ℤ shift) shift in
    let e : (z +ℤ shift) -ℤ shift ≡ z = same ((z +ℤ shift) -ℤ shift) z (omega (arith, d.0, d.1)) in
    ap (λ (x : ℤ). opens_ramadan (of_day_of x)) e ∙ ap opens_ramadan (of_day_back (date_of y 9 1) (first_exists y l) h)

opened : (d : Tabular) → opens_ramadan d ≡ true → date_of d.year 9 1 ≡ d
opened d h =
    let t = (and-eq-true_iff (eqb d.month 9) (eqb d.day 1)).0 h in
    rw (eqb-true d.month 9 t.0, eqb-true d.day 1 t.1)

-- and for no other day: if it is true for a day, the day less the shift is the first of month 9 of its year
pub start_only : (z shift : ℤ) → ramadan_start_of z shift ≡ true → first_of_ramadan_of (of_day_of (z -ℤ shift)).year ≡ z -ℤ shift
unfolding ramadan_start_of
start_only z shift h = by_place (z -ℤ shift) h
  where
    by_place : (x : ℤ) → opens_ramadan (of_day_of x) ≡ true → first_of_ramadan_of (of_day_of x).year ≡ x
    by_place x h =
        cases (le_z (negsuc 492147) x)
        (λ p. cases (le_z x (pos 1521992751622)) (λ q. ap day_number_of (opened (of_day_of x) h) ∙ of_day_forth x p q)
        (λ q. let l = le_no x (pos 1521992751622) q in
        absurd (true≢false (sym h ∙ ap opens_ramadan (of_day_above x (omega arith)) ∙ last_not))))
        (λ p. let l = le_no (negsuc 492147) x p in
        absurd (true≢false (sym h ∙ ap opens_ramadan (of_day_below x (omega arith)) ∙ first_not)))
