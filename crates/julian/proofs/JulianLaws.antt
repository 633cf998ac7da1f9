-- For every date of the years 1899 to 2204 the f64 formula, Meeus's whole numbers and the calendar's count of days give the same Julian
-- Day. The f64 sums are of whole numbers and halves, which lose nothing. Assumes nothing.
use Rattle.prelude.proofs.Logic.{◌≡◌, refl, sym, ap, ◌∙◌, true, ℕ, suc, ◌+◌, ◌-◌, ◌*◌, ◌/◌, ◌≤◌, ◌<◌, arith, ltb, lit<, lit≤, ℤ, pos}
use Rattle.prelude.proofs.Logic.{negsuc, ◌+ℤ◌, ◌-ℤ◌, ◌*ℤ◌, ltb-true, ltb-false, lt-ltb, cases}
use Rattle.float64.proofs.Floats.{Float, binary64, of_int, round, sub, div, ◌+ᶠ◌, ◌-ᶠ◌, ◌/ᶠ◌, dec, big, dyadic, int_dyadic, add_dyadic}
use Rattle.float64.proofs.Floats.{sub_dyadic, neg_at}
use Rattle.integers.proofs.Integers.{P, same, sum, difference}
use Rattle.calendar.proofs.Calendar.{exists_of, day_number_of, tomorrow_of, exists_yes, month_of_date, year_after}
use Rattle.calendar.proofs.Successors.{tomorrow-is, tomorrow-exists}
use Rattle.calendar.specs.declared.dates.Date.{Date}
use Rattle.julian.specs.Julian.{real, correction_of, from_march_of, julian_day_of, to_i32_of, date_julian_day_of}
use Rattle.julian.specs.Meeus.{year_days_of, month_term_of, meeus_of}
use Rattle.julian.proofs.Products.{year_cut, month_cut}
use Rattle.julian.proofs.Counted.{meeus_number, meeus_after}

-- n halves as an f64
abbrev pub halves : ℕ → Float
halves n = dyadic 1 n

whole : (n : ℕ) → real (pos n) ≡ halves (n * 2)
whole n = int_dyadic 1 n

offset : dec 15245 1 ≡ halves 3049
unfolding dec round
offset = refl

-- the day of the month at 0 h
abbrev at_midnight : ℕ → Float
at_midnight day = real (pos day) +ᶠ dec 0 0 /ᶠ dec 24 0

no_hours : dec 0 0 /ᶠ dec 24 0 ≡ halves 0
unfolding dec round div
no_hours = refl

-- adding B, which is -b, loses nothing
taken : (x b : ℕ) → x < 100000000 → 0 < b → b * 2 ≤ x → halves x +ᶠ real (negsuc (b - 1)) ≡ halves (x - b * 2)
unfolding sub of_int
taken x b h p l =
    let s : suc (b - 1) ≡ b = omega arith in
    rw (s, ← neg_at b (omega arith)) (ap (sub binary64 (halves x)) (whole b) ∙ sub_dyadic 1 x (b * 2) (lit≤ tt) (omega arith) l)

-- u, v: the days of the years and of the months; b: the days that the centuries subtract
exact : (u v day b : ℕ) → u + v + day < 10000000 → 0 < b → b + 1525 ≤ u + v + day →
    real (pos u) +ᶠ real (pos v) +ᶠ at_midnight day +ᶠ real (negsuc (b - 1)) -ᶠ dec 15245 1
    ≡ halves (2 * (u + v + day - b) - 3049)
exact u v day b small p large =
    let e0 : halves (day * 2) +ᶠ halves 0 ≡ halves (day * 2 + 0) = add_dyadic 1 (day * 2) 0 (lit≤ tt) (omega arith) (lit< tt) in
    let e1 : halves (u * 2) +ᶠ halves (v * 2) ≡ halves (u * 2 + v * 2) =
    add_dyadic 1 (u * 2) (v * 2) (lit≤ tt) (omega arith) (omega arith) in
    let e2 : halves (u * 2 + v * 2) +ᶠ halves (day * 2 + 0) ≡ halves (u * 2 + v * 2 + (day * 2 + 0)) =
    add_dyadic 1 (u * 2 + v * 2) (day * 2 + 0) (lit≤ tt) (omega arith) (omega arith) in
    let x = u * 2 + v * 2 + (day * 2 + 0) in
    let e3 = taken x b (omega arith) p (omega arith) in
    let e4 : halves (x - b * 2) -ᶠ halves 3049 ≡ halves (x - b * 2 - 3049) =
    sub_dyadic 1 (x - b * 2) 3049 (lit≤ tt) (omega arith) (omega arith) in
    let e5 : x - b * 2 - 3049 ≡ 2 * (u + v + day - b) - 3049 = omega arith in
    rw (whole u, whole v, whole day, no_hours, offset, e0, e1, e2, e3, e4) (ap halves e5)

-- ---- the formula
correction : (y : ℕ) → 1898 ≤ y → y ≤ 2204 → correction_of (pos y) ≡ negsuc (y / 100 - 2 - y / 100 / 4 - 1)
unfolding correction_of
correction y p q =
    let a = y / 100 in
    let d = difference (pos 2) (pos a) in
    same ((pos 2 -ℤ pos a) +ℤ pos (a / 4)) (negsuc (a - 2 - a / 4 - 1)) (omega (arith, sum (pos 2 -ℤ pos a) (pos (a / 4)), d.0, d.1))

from_march : (y m day : ℕ) → 1898 ≤ y → y ≤ 2204 → 3 ≤ m → m ≤ 14 → day ≤ 31 →
    from_march_of (pos y) (pos m) (at_midnight day)
    ≡ halves (2 * (year_days_of y + month_term_of m + day + 2 + y / 100 / 4 - y / 100) - 3049)
unfolding from_march_of
from_march y m day p q i j k =
    let u : year_days_of y ≤ 2600000 = omega arith in
    let v : 1525 + 100 ≤ year_days_of y = omega arith in
    let w : month_term_of m ≤ 500 = omega arith in
    let a : 18 ≤ y / 100 = omega arith in
    let b : y / 100 ≤ 22 = omega arith in
    rw (year_cut y p q, month_cut m i j, correction y p q) (sum_of (year_days_of y) (month_term_of m) (y / 100) u v w a b)
  where
    sum_of : (u v a : ℕ) → u ≤ 2600000 → 1625 ≤ u → v ≤ 500 → 18 ≤ a → a ≤ 22 →
        real (pos u) +ᶠ real (pos v) +ᶠ at_midnight day +ᶠ real (negsuc (a - 2 - a / 4 - 1)) -ᶠ dec 15245 1
        ≡ halves (2 * (u + v + day + 2 + a / 4 - a) - 3049)
    sum_of u v a b c d e f =
        let g : 2 * (u + v + day - (a - 2 - a / 4)) - 3049 ≡ 2 * (u + v + day + 2 + a / 4 - a) - 3049 = omega arith in
        exact u v day (a - 2 - a / 4) (omega arith) (omega arith) (omega arith) ∙ ap halves g

to_i32 : (n : ℕ) → n < 2147483648 → to_i32_of n ≡ pos n
unfolding to_i32_of
to_i32 n h = rw (lt-ltb n 2147483648 h)

before : (y : ℕ) → 1 ≤ y → pos y -ℤ pos 1 ≡ pos (y - 1)
before y h = let d = difference (pos y) (pos 1) in same (pos y -ℤ pos 1) (pos (y - 1)) (omega (arith, d.0, d.1))

-- the f64 formula and the whole-number one
pub julian_meeus : (d : Date) → exists_of d ≡ true → 1899 ≤ d.year → d.year ≤ 2204 → date_julian_day_of d ≡ halves (meeus_of d)
unfolding date_julian_day_of julian_day_of meeus_of
julian_meeus d h p q =
    let x = exists_yes d h in let m = month_of_date d x in
    rw (to_i32 d.year (omega arith), to_i32 d.month (omega arith), to_i32 d.day (omega arith))
    (cases (ltb 2 d.month)
    (λ e. rw e (from_march d.year d.month d.day (omega arith) q (ltb-true 2 d.month e) (omega arith) (omega arith)))
    (λ e. let l = ltb-false 2 d.month e in
    rw (e, before d.year (omega arith))
    (from_march (d.year - 1) (d.month + 12) d.day (omega arith) (omega arith) (omega arith) (omega arith) (omega arith))))

-- and the calendar's count of days: day 0 begins at 2440587.5
pub julian_number : (d : Date) → exists_of d ≡ true → 1899 ≤ d.year → d.year ≤ 2204
    → date_julian_day_of d ≡ halves (P (day_number_of d *ℤ pos 2 +ℤ pos 4881175))
julian_number d h p q = julian_meeus d h p q ∙ ap (λ (z : ℤ). halves (P z)) (meeus_number d h (omega arith))

-- ---- the next date
pub meeus_small : (d : Date) → exists_of d ≡ true → d.year ≤ 2204 → meeus_of d < big
unfolding meeus_of
meeus_small d h q =
    let x = exists_yes d h in let m = month_of_date d x in
    cases (ltb 2 d.month) (λ e. rw e (omega arith)) (λ e. rw e (omega arith))

one : dec 1 0 ≡ halves 2
unfolding dec round
one = refl

-- the Julian Day of the next date is one more
pub julian_tomorrow : (d : Date) → exists_of d ≡ true → 1899 ≤ d.year → d.year ≤ 2203
    → date_julian_day_of (tomorrow_of d) ≡ date_julian_day_of d +ᶠ dec 1 0
julian_tomorrow d h p q =
    let is = tomorrow-is d h (omega arith) in
    let y : (d.year ≤ (tomorrow_of d).year) × ((tomorrow_of d).year ≤ d.year + 1) = rw is (year_after d) in
    let next = julian_meeus (tomorrow_of d) (tomorrow-exists d h (omega arith)) (omega arith) (omega arith) in
    let two : halves (meeus_of d) +ᶠ halves 2 ≡ halves (meeus_of d + 2) =
    add_dyadic 1 (meeus_of d) 2 (lit≤ tt) (meeus_small d h (omega arith)) (lit< tt) in
    next ∙ ap halves (ap meeus_of is ∙ meeus_after d h (omega arith)) ∙ sym (rw (julian_meeus d h p (omega arith), one) two)
