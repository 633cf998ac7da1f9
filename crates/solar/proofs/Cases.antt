-- The arithmetic of `hour` and `next_midnight` on the numbers that the machine reads, and their times. Assumes nothing.
use Rattle.std.specs.Prelude.{None, Some}
use Rattle.prelude.proofs.Logic.{◌≡◌, sym, ap, subst, ◌∙◌, ℕ, ◌+◌, ◌*◌, ◌≤◌, ◌<◌, arith, ℤ, pos, negsuc, ◌-ℤ◌, lt-ltb, le-ltb, w32, SFits}
use Rattle.prelude.proofs.Logic.{to_z, of_z}
use Rattle.integers.proofs.Integers.{same, sum, difference, fits, read}
use Rattle.solar.specs.Setting.{hour_of}
use Rattle.solar.specs.PastMidnight.{next_midnight_of}
use Rattle.solar.specs.declared.setting.Placed.{Placed}

-- the second n less a day
module _ (n : ℕ) (h : n < 2147483648) where
  pub n-is : to_z w32 n ≡ pos n
  n-is = read w32 (pos n) (record { sfits = omega arith })

  pub back_fits : SFits w32 (to_z w32 n -ℤ pos 86400)
  back_fits =
      let s = sum (pos n) (negsuc 86399) in
      subst (λ (z : ℤ). SFits w32 (z -ℤ pos 86400)) (sym n-is) (fits w32 (pos n -ℤ pos 86400) (omega arith) (omega arith))

  pub back : to_z w32 (of_z w32 (to_z w32 n -ℤ pos 86400)) ≡ pos n -ℤ pos 86400
  back = read w32 (to_z w32 n -ℤ pos 86400) back_fits ∙ ap (λ (z : ℤ). z -ℤ pos 86400) n-is

module _ (p : Placed) (minute : ℕ) where
  pub on-hour : minute < 60 → p.hour < 24 → Some (pos (p.ahead * 86400 + p.hour * 3600 + minute * 60) -ℤ pos 86400) ≡ hour_of p minute
  unfolding hour_of
  on-hour h k = simp (lt-ltb minute 60 h, lt-ltb p.hour 24 k)

  pub next-hour : 60 ≤ minute → p.hour < 23 → Some (pos (p.ahead * 86400 + (p.hour + 1) * 3600) -ℤ pos 86400) ≡ hour_of p minute
  unfolding hour_of
  next-hour h k =
      let e : p.ahead * 86400 + (p.hour + 1) * 3600 ≡ p.ahead * 86400 + (p.hour + 1) * 3600 + 0 * 60 = omega arith in
      simp (le-ltb minute 60 h, lt-ltb (p.hour + 1) 24 (omega arith)) (ap (λ (n : ℕ). Some (pos n -ℤ pos 86400)) e)

  pub no-hour : 60 ≤ minute → 23 ≤ p.hour → None ≡ hour_of p minute
  unfolding hour_of
  no-hour h k = simp (le-ltb minute 60 h, le-ltb (p.hour + 1) 24 (omega arith))

-- 0h of the date after the one taken
pub midnight : (ahead : ℕ) → ahead * 86400 < 2147483648 → Some (to_z w32 (ahead * 86400)) ≡ next_midnight_of ahead
midnight ahead h =
    let n = ahead * 86400 in
    let m = (ahead + 1) * 86400 + 0 * 3600 + 0 * 60 in
    let d = difference (pos m) (pos 86400) in
    ap Some (n-is n h ∙ same (pos n) (pos m -ℤ pos 86400) (omega (arith, d.0, d.1)))
