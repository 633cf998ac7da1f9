-- Years follow each other without a gap in the count of days, and the quotient finds the year of each day. Assumes nothing.
use Rattle.prelude.proofs.Logic.{◌≡◌, refl, sym, subst, Bool, true, false, cond, not, ◌&&◌, ◌||◌, ℕ, zero, suc, ◌+◌, ◌-◌, ◌*◌, ◌/◌, ◌%◌}
use Rattle.prelude.proofs.Logic.{◌≤◌, ◌<◌, zero-add, le_refl, lt_of_not-le, add-one, arith, T, leb, eqb-true, eqb-false, leb-true}
use Rattle.prelude.proofs.Logic.{leb-false, cases}
use Rattle.calendar.specs.Gregorian.{divides, leap_of}
use Rattle.calendar.specs.Days.{days_in_year_of, days_before_year_of, last_by, year_of}

-- ---- a year later
-- each of the three quotients grows by one after a year that its number divides
fourth : (y : ℕ) (b : Bool) → divides 4 y ≡ b → (y + 1 + 3) / 4 ≡ (y + 3) / 4 + cond b 1 0
fourth y true h = omega (arith, eqb-true (y % 4) 0 h)
fourth y false h = omega (arith, eqb-false (y % 4) 0 h)

hundredth : (y : ℕ) (b : Bool) → divides 100 y ≡ b → (y + 1 + 99) / 100 ≡ (y + 99) / 100 + cond b 1 0
hundredth y true h = omega (arith, eqb-true (y % 100) 0 h)
hundredth y false h = omega (arith, eqb-false (y % 100) 0 h)

four_hundredth : (y : ℕ) (b : Bool) → divides 400 y ≡ b → (y + 1 + 399) / 400 ≡ (y + 399) / 400 + cond b 1 0
four_hundredth y true h = omega (arith, eqb-true (y % 400) 0 h)
four_hundredth y false h = omega (arith, eqb-false (y % 400) 0 h)

-- a hundredth year is also a fourth one, and a four_hundredth year also a hundredth one
nested : {X : Type 0} (y : ℕ) (a b c : Bool) → divides 4 y ≡ a → divides 100 y ≡ b → divides 400 y ≡ c → T (b && not a || c && not b) → X
nested y true true true p q r t = absurd t
nested y true true false p q r t = absurd t
nested y true false true p q r t = absurd (omega (arith, eqb-false (y % 100) 0 q, eqb-true (y % 400) 0 r))
nested y true false false p q r t = absurd t
nested y false true c p q r t = absurd (omega (arith, eqb-false (y % 4) 0 p, eqb-true (y % 100) 0 q))
nested y false false true p q r t = absurd (omega (arith, eqb-false (y % 100) 0 q, eqb-true (y % 400) 0 r))
nested y false false false p q r t = absurd t

pub year_step : (y : ℕ) → days_before_year_of (y + 1) ≡ days_before_year_of y + days_in_year_of y
unfolding days_before_year_of days_in_year_of leap_of
year_step y = by-test (divides 4 y) (divides 100 y) (divides 400 y) refl refl refl
  where
    less : (y + 99) / 100 ≤ 365 * y + (y + 3) / 4
    less = omega arith

    by-test : (a b c : Bool) → divides 4 y ≡ a → divides 100 y ≡ b → divides 400 y ≡ c →
        365 * (y + 1) + (y + 1 + 3) / 4 - (y + 1 + 99) / 100 + (y + 1 + 399) / 400
        ≡ 365 * y + (y + 3) / 4 - (y + 99) / 100 + (y + 399) / 400 + cond (a && (not b || c)) 366 365
    by-test a b c p q r =
        rw (fourth y a p, hundredth y b q, four_hundredth y c r)
        (added ((y + 3) / 4) ((y + 99) / 100) ((y + 399) / 400) less a b c (nested y a b c p q r))
      where
        added : (i j k : ℕ) → j ≤ 365 * y + i → (a b c : Bool) → (T (b && not a || c && not b) → ⊥) →
            365 * (y + 1) + (i + cond a 1 0) - (j + cond b 1 0) + (k + cond c 1 0) ≡ 365 * y + i - j + k + cond (a && (not b || c)) 366 365
        added i j k l true true true n = omega arith
        added i j k l true true false n = omega arith
        added i j k l true false true n = absurd (n tt)
        added i j k l true false false n = omega arith
        added i j k l false true c n = absurd (n tt)
        added i j k l false false true n = absurd (n tt)
        added i j k l false false false n = omega arith

pub year_zero : days_before_year_of 0 ≡ 0
unfolding days_before_year_of
year_zero = refl

-- the year after the last that a u32 holds
pub last_year_lem : days_before_year_of 4294967296 ≡ 1568704592610
unfolding days_before_year_of
last_year_lem = refl

pub year_mono : (y z : ℕ) → y ≤ z → days_before_year_of y ≤ days_before_year_of z
year_mono y z h = let e : z - y + y ≡ z = omega arith in subst (λ (x : ℕ). days_before_year_of y ≤ days_before_year_of x) e (up (z - y))
  where
    up : (k : ℕ) → days_before_year_of y ≤ days_before_year_of (k + y)
    up zero = rw (zero-add y) (le_refl (days_before_year_of y))
    up (suc k) =
        let e : k + y + 1 ≡ suc k + y = omega arith in let g = year_step (k + y) in let i = up k in
        subst (λ (x : ℕ). days_before_year_of y ≤ days_before_year_of x) e (omega arith)

-- a year that begins after some day is not the first
pub year_above : (y n : ℕ) → n < days_before_year_of y → 1 ≤ y
year_above zero n h = absurd (omega (arith, year_zero))
year_above (suc y) n h = omega arith

-- n days after 0000-01-01 is a day of the year y
pub record In (n y : ℕ) : Type 0 where
  pub from : days_before_year_of y ≤ n
  pub before : n < days_before_year_of (y + 1)

-- the days before the year y are near 146097 * y / 400, since 400 years have 146097 days
spread : (y : ℕ) → (146097 * y ≤ 400 * days_before_year_of y + 396) × (400 * days_before_year_of y ≤ 146097 * y + 699)
unfolding days_before_year_of
spread y = shares ((y + 3) / 4) ((y + 99) / 100) ((y + 399) / 400) (omega arith) (omega arith) (omega arith) (omega arith) (omega arith)
    (omega arith)
  where
    shares : (i j k : ℕ) → y ≤ 4 * i → 4 * i ≤ y + 3 → y ≤ 100 * j → 100 * j ≤ y + 99 → y ≤ 400 * k → 400 * k ≤ y + 399 →
        (146097 * y ≤ 400 * (365 * y + i - j + k) + 396) × (400 * (365 * y + i - j + k) ≤ 146097 * y + 699)
    shares i j k a b c d e f = (omega arith, omega arith)

last_found : (y n : ℕ) → n < days_before_year_of (y + 1) → In n (last_by y n)
unfolding last_by
last_found zero n h = record { from = omega (arith, year_zero); before = h }
last_found (suc y) n h =
    cases (leb (days_before_year_of (suc y)) n) (λ e. rw e (record { from = leb-true (days_before_year_of (suc y)) n e; before = h }))
    (λ e. rw e (last_found y n (rw (add-one y) (leb-false (days_before_year_of (suc y)) n e))))

not_short : (y : ℕ) → 365 * y ≤ days_before_year_of y
unfolding days_before_year_of
not_short y = omega arith

pub year_found : (n : ℕ) → In n (year_of n)
unfolding year_of
year_found n = last_found (n / 365) n (omega (arith, not_short (n / 365 + 1)))

-- a year that begins at a day or before it is before a year that begins after that day
pub year_before : (n y z : ℕ) → days_before_year_of y ≤ n → n < days_before_year_of z → y < z
year_before n y z p q = lt_of_not-le (λ l. let m = year_mono z y l in omega arith)

pub year_unique : (n y z : ℕ) → In n y → In n z → y ≡ z
year_unique n y z p q = let l = year_before n y (z + 1) p.from q.before in let m = year_before n z (y + 1) q.from p.before in
    omega arith

-- ---- the quotient is the year or the one after it
module _ (n guess : ℕ) (is : guess ≡ (n + 1) * 400 / 146097) where
  pub guess-right : days_before_year_of guess ≤ n → guess ≡ year_of n
  guess-right h = year_unique n guess (year_of n) (record { from = h; before = omega (arith, (spread (guess + 1)).0) }) (year_found n)

  pub guess-over : n < days_before_year_of guess → guess - 1 ≡ year_of n
  guess-over h =
      let first = year_above guess n h in let e : guess - 1 + 1 ≡ guess = omega arith in let s = spread (guess - 1) in
      year_unique n (guess - 1) (year_of n)
      (record { from = omega (arith, s.1); before = subst (λ (x : ℕ). n < days_before_year_of x) (sym e) h }) (year_found n)
