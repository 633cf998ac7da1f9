-- The dates of an order's rows: if the first and the last are in an order's years, all are. Assumes nothing.
use Rattle.prelude.proofs.Logic.{◌≡◌, refl, sym, ap, subst, true, List, ℕ, zero, suc, ◌+◌, ◌-◌, ◌≤◌, ◌<◌, arith, leb, ltb, eqb, pos, negsuc}
use Rattle.prelude.proofs.Logic.{◌+ℤ◌, length, le-leb, ltb-true, ltb-false, arms, cases}
use Rattle.integers.proofs.Integers.{P, N, sum, difference, to_le}
use Rattle.calendar.specs.declared.dates.Date.{Date}
use Rattle.calendar.proofs.Calendar.{exists_of, day_after_of, days_before_year_of, day_number_of, date_of_day_of, held_of, from_of, row_date_of, row_first}
use Rattle.calendar.proofs.Calendar.{row_next, number_of_date, date_of_day_exists, count, ordinal_within, ordinal_short, year_mono}
use Rattle.calendar.proofs.Calendar.{year_after, row_is}
use Rattle.order.specs.Given.{rows_in}
use Rattle.order.specs.Ranges.{most_in, rows_fit}
use Rattle.order.specs.Accepted.{DateInOrder}

-- the date k days after d
abbrev days_after : Date → ℕ → Date
days_after d k = date_of_day_of (day_number_of d +ℤ pos k)

module _ (d : Date) (there : exists_of d ≡ true) where
  years-rise : (k j : ℕ) → (days_after d k).year ≤ (days_after d (k + j)).year
  years-rise k zero = let e : (days_after d (k + 0)).year ≡ (days_after d k).year = ap (λ (i : ℕ). (days_after d i).year) (omega arith) in
      omega arith
  years-rise k (suc j) =
      let i = years-rise k j in
      let n : (days_after d (k + j + 1)).year ≡ (day_after_of (days_after d (k + j))).year =
      ap (λ (x : Date). x.year) (row_next d (k + j) there) in
      let y = (year_after (days_after d (k + j))).0 in
      let e : (days_after d (k + suc j)).year ≡ (days_after d (k + j + 1)).year = ap (λ (x : ℕ). (days_after d x).year) (omega arith) in
      omega arith

  pub row-year : (k : ℕ) → (row_date_of d k).year ≤ 2199 → (days_after d k).year ≤ 2199
  unfolding from_of held_of
  row-year k h =
      arms (λ (x : Date). x.year ≤ 2199 → (days_after d k).year ≤ 2199) (leb (days_after d k).year 4294967295) (λ t g. g)
      (λ t g. absurd (omega arith))
      (simp there at h)

  pub row-in-order : 1900 ≤ d.year → (last row : ℕ) → (row_date_of d last).year ≤ 2199 → row ≤ last → DateInOrder (row_date_of d row)
  row-in-order from last row to l =
      let a : (days_after d 0).year ≡ d.year = ap (λ (x : Date). x.year) (row_first d there) in
      let b = years-rise 0 row in
      let e : (days_after d (0 + row)).year ≡ (days_after d row).year = ap (λ (x : ℕ). (days_after d x).year) (omega arith) in
      let c = years-rise row (last - row) in
      let f : (days_after d (row + (last - row))).year ≡ (days_after d last).year = ap (λ (x : ℕ). (days_after d x).year) (omega arith) in
      let g = row-year last to in
      let low : 1900 ≤ (days_after d row).year = omega arith in
      let high : (days_after d row).year ≤ 2199 = omega arith in
      subst DateInOrder (sym (row_is d there row (omega arith)))
      (record { there = date_of_day_exists (day_number_of d +ℤ pos row); from = low; to = high })

-- ---- an order has at most 400 rows, so an order that begins before 2198 ends by 2199
balance : (d : Date) → P (day_number_of d) + 719529 ≡ N (day_number_of d) + count d
unfolding day_number_of
balance d = let s = difference (pos (count d)) (pos 719529) in omega arith

days_before_2198 : (year : ℕ) → year ≤ 2197 → days_before_year_of year + 1096 ≤ days_before_year_of 2200 + 1
unfolding days_before_year_of
days_before_2198 year h = let m : days_before_year_of year ≤ days_before_year_of 2197 = year_mono year 2197 h in
    let l : days_before_year_of 2197 + 1095 ≡ days_before_year_of 2200 = refl in omega arith

ends_early : (d : Date) → exists_of d ≡ true → d.year ≤ 2197 → (k : ℕ) → k ≤ 399 → (days_after d k).year ≤ 2199
ends_early d there early k few =
    let z = day_number_of d +ℤ pos k in
    let o = ordinal_within d there in
    let s = sum (day_number_of d) (pos k) in
    let b = balance d in
    let n : day_number_of (days_after d k) ≡ z = number_of_date z (to_le (negsuc 719527) z (omega arith)) in
    let c = balance (days_after d k) in
    let f = ordinal_within (days_after d k) (date_of_day_exists z) in
    let p : P (day_number_of (days_after d k)) ≡ P z = ap P n in
    let q : N (day_number_of (days_after d k)) ≡ N z = ap N n in
    let l = days_before_2198 d.year early in
    let g = ordinal_short d in
    cases (ltb 2199 (days_after d k).year)
    (λ e. let m = year_mono 2200 (days_after d k).year (omega (arith, ltb-true 2199 (days_after d k).year e)) in absurd (omega arith))
    (λ e. ltb-false 2199 (days_after d k).year e)

row_early : (d : Date) → d.year ≤ 2197 → (k : ℕ) → k ≤ 399 → leb (row_date_of d k).year 2199 ≡ true
unfolding from_of held_of
row_early d early k few =
    arms (λ (x : Date). leb x.year 2199 ≡ true) (exists_of d)
    (λ e. let y = ends_early d e early k few in
    rw (le-leb (days_after d k).year 4294967295 (omega arith)) (le-leb (days_after d k).year 2199 y))
    (λ e. le-leb d.year 2199 (omega arith))

pub most_few : (v : List ℕ) → most_in v ≤ 400
most_few v = arms (λ (n : ℕ). n ≤ 400) (eqb (length v) 2) (λ t. omega arith) (λ t. omega arith)

pub rows_early : (d : Date) (v : List ℕ) (rows most : ℕ) → rows ≡ rows_in v → most ≡ most_in v → d.year < 2198 → 1 ≤ rows → rows ≤ most
    → rows_fit d v ≡ true
unfolding rows_fit
rows_early d v rows most is-rows is-most early some few =
    let m = most_few v in
    let l = row_early d (omega arith) (rows - 1) (omega arith) in
    simp (sym is-rows, sym is-most, le-leb 1 rows some, le-leb rows most few, l)
