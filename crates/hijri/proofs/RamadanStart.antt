-- The day less the shift fits an i64, and some days are so far away that no shift brings them into the calendar. Assumes nothing.
use Rattle.prelude.proofs.Logic.{◌≡◌, refl, sym, ap, ◌∙◌, true, false, ℕ, ◌+◌, ◌≤◌, arith, ℤ, pos, negsuc, ◌-ℤ◌, lt_z, w64, w32, SFits}
use Rattle.integers.proofs.Integers.{P, N, difference, lt_yes, lt_no, range, fits, read_back, read, read_wide}
use Rattle.hijri.specs.Days.{year_start_of, month_start_of, year_of, month_of, in_year_of, date_at_of}
use Rattle.hijri.specs.Ramadan.{opens_ramadan, ramadan_start_of}
use Rattle.hijri.proofs.ByCount.{of_day_below, of_day_above}

-- neither the first date of the calendar nor the last opens a Ramadan
pub first_not : opens_ramadan (date_at_of 0) ≡ false
unfolding date_at_of in_year_of year_of month_of year_start_of month_start_of
first_not = refl

pub last_not : opens_ramadan (date_at_of 1521993243770) ≡ false
unfolding date_at_of in_year_of year_of month_of year_start_of month_start_of
last_not = refl

-- a bound of a part, which holds because one of the two parts is 0
high_part : (z : ℤ) (k : ℕ) → P z ≤ N z + k → P z ≤ k
high_part (pos n) k h = omega arith
high_part (negsuc n) k h = omega arith

low_part : (z : ℤ) (k : ℕ) → N z ≤ P z + k → N z ≤ k
low_part (pos n) k h = omega arith
low_part (negsuc n) k h = omega arith

module _ (z : ℤ) (f : SFits w64 z) (s : ℤ) (g : SFits w32 s) where
  same_read : read_back w64 z ≡ z
  same_read = read w64 z f

  less-read : read_back w64 z -ℤ read_back w64 (read_back w32 s) ≡ z -ℤ s
  less-read = rw (same_read, read_wide s g)

  pub far-below : lt_z (read_back w64 z) (negsuc 999999999999) ≡ true → false ≡ ramadan_start_of z s
  unfolding ramadan_start_of
  far-below t =
      let l = lt_yes z (negsuc 999999999999) (ap (λ (x : ℤ). lt_z x (negsuc 999999999999)) (sym same_read) ∙ t) in
      rw (of_day_below (z -ℤ s) (omega (arith, range w32 s g, (difference z s).0, (difference z s).1))) (sym first_not)

  pub far-above : lt_z (pos 2000000000000) (read_back w64 z) ≡ true → false ≡ ramadan_start_of z s
  unfolding ramadan_start_of
  far-above t =
      let l = lt_yes (pos 2000000000000) z (ap (lt_z (pos 2000000000000)) (sym same_read) ∙ t) in
      rw (of_day_above (z -ℤ s) (omega (arith, range w32 s g, (difference z s).0, (difference z s).1))) (sym last_not)

  module _ (a : lt_z (read_back w64 z) (negsuc 999999999999) ≡ false) (b : lt_z (pos 2000000000000) (read_back w64 z) ≡ false) where
    near_fits : SFits w64 (z -ℤ s)
    near_fits =
        let l = lt_no z (negsuc 999999999999) (ap (λ (x : ℤ). lt_z x (negsuc 999999999999)) (sym same_read) ∙ a) in
        let h = lt_no (pos 2000000000000) z (ap (lt_z (pos 2000000000000)) (sym same_read) ∙ b) in
        let p = high_part z 2000000000000 (omega arith) in
        let n = low_part z 1000000000000 (omega arith) in
        let r = range w32 s g in
        let d = difference z s in
        fits w64 (z -ℤ s) (omega (arith, d.0, d.1)) (omega (arith, d.0, d.1))

    pub less_fits : SFits w64 (read_back w64 z -ℤ read_back w64 (read_back w32 s))
    less_fits = rw less-read near_fits

    pub shift-read : read_back w64 (read_back w64 z -ℤ read_back w64 (read_back w32 s)) ≡ z -ℤ s
    shift-read = rw less-read (read w64 (z -ℤ s) near_fits)
