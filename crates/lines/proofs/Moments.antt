-- A time on the date or on a day beside it, in the machine's numbers. Assumes nothing.
use Rattle.prelude.proofs.Logic.{◌≡◌, sym, ap, subst, ◌∙◌, true, false, ℕ, ◌+◌, ◌*◌, ◌≤◌, ◌<◌, arith, lit<, T, ℤ, pos, nat_abs}
use Rattle.prelude.proofs.Logic.{◌-ℤ◌, lt_z, non_neg, w64, SFits, Fits}
use Rattle.integers.proofs.Integers.{P, N, floor_quot, floor_rem, by_balance, lt_yes, lt_no, same, natural, floored, fits, read_back}
use Rattle.integers.proofs.Integers.{read, difference, differences}
use Rattle.calendar.proofs.CalendarLaws.{day_zero}
use Rattle.calendar.specs.Days.{day_number_of}
use Rattle.calendar.specs.declared.dates.Date.{Date}
use Rattle.text.specs.Text.{digit_of}
use Rattle.lines.specs.Lines.{days_of, sign_of}
use Rattle.lines.specs.Since.{epoch}

-- ---- the second of a day that begins at `start`
module _ (start time x y : ℤ) (a : x ≡ start) (b : y ≡ time) (from : P start + N time ≤ P time + N start)
    (to : P time + N start < P start + N time + 86400) where
  held : (N (y -ℤ x) ≤ 0) × (P (y -ℤ x) ≤ 86399)
  held =
      let d = difference time start in
      let h = by_balance 0 86399 (time -ℤ start) (omega (arith, d.0.balance, d.1.over, d.1.under))
      (omega (arith, d.0.balance, d.1.over, d.1.under)) in
      subst (λ (z : ℤ). (N z ≤ 0) × (P z ≤ 86399)) (sym (differences b a)) (h.from, h.to)

  pub second_fits : SFits w64 (y -ℤ x)
  second_fits = fits w64 (y -ℤ x) (omega (arith, held.1)) (omega (arith, held.0))

  second_is : read_back w64 (y -ℤ x) ≡ pos (P (y -ℤ x))
  second_is = read w64 (y -ℤ x) second_fits ∙ natural (y -ℤ x) (omega (arith, held.0))

  pub second-cast : T (non_neg (read_back w64 (y -ℤ x))) × Fits w64 (nat_abs (read_back w64 (y -ℤ x)))
  second-cast = subst (λ (z : ℤ). T (non_neg z) × Fits w64 (nat_abs z)) (sym second_is) (tt, record { fits = omega (arith, held.1) })

  pub second-since : (nat_abs (read_back w64 (y -ℤ x)) < 86400) × (P time + N start ≡ N time + P start + nat_abs (read_back w64 (y -ℤ x)))
  second-since =
      let d = difference time start in
      let z = ap P (differences b a) in
      let n = ap N (differences b a) in
      subst (λ (z : ℤ). (nat_abs z < 86400) × (P time + N start ≡ N time + P start + nat_abs z)) (sym second_is)
      (omega (arith, held.1), omega (arith, held.0, d.0.balance, d.1.over, d.1.under, z, n))

-- ---- s seconds into the day that is k days from the date
pub on_day : (date : Date) (time k : ℤ) (s : ℕ) → s < 86400
    → P time + (N (day_number_of date) + N k) * 86400 ≡ N time + (P (day_number_of date) + P k) * 86400 + s
    → (days_of date time ≡ k) × (floor_rem time 86400 ≡ s)
on_day date time k s small e =
    let d = day_number_of date in
    let f = floored time 86400 (lit< tt) in
    let b = difference (floor_quot time 86400) d in (
      same (days_of date time) k (omega (arith, f.balance, f.below, b.0.balance, b.1.over, b.1.under)),
      omega (arith, f.balance, f.below),
    )

-- the days of a time since 0h are its quotient
pub since_days : (time : ℤ) → floor_quot time 86400 ≡ days_of epoch time
since_days time = let b = difference (floor_quot time 86400) (pos 0) in
    rw day_zero (same (floor_quot time 86400) (floor_quot time 86400 -ℤ pos 0) (omega (arith, b.0, b.1)))

-- sign, digit and second are those of a time since 0h
abbrev Told : ℤ → ℕ → ℕ → ℕ → Type 0
Told time sign digit second =
    (sign ≡ sign_of (days_of epoch time)) × (digit ≡ digit_of (nat_abs (days_of epoch time))) × (second ≡ floor_rem time 86400)

pub told_by : (time t : ℤ) (sign digit second : ℕ) → t ≡ time → Told t sign digit second → Told time sign digit second
told_by time t sign digit second r h = subst (λ (z : ℤ). Told z sign digit second) r h

-- `from` is 0h of the day k days from the date
abbrev Begins : ℤ → ℤ → Type 0
Begins k from = P from + N k * 86400 ≡ N from + P k * 86400

-- between 0h of two days that follow one another
pub within : (k l a b t : ℤ) → Begins k a → Begins l b → P l + N k ≡ P k + N l + 1 → lt_z t a ≡ false → lt_z t b ≡ true
    → (P a + N t ≤ P t + N a) × (P t + N a < P a + N t + 86400)
within k l a b t u v one left right =
    let x = lt_no t a left in
    let y = lt_yes t b right in
    (omega arith, omega arith)

pub told : (k from time t : ℤ) (s : ℕ) → t ≡ time → Begins k from → (s < 86400) × (P t + N from ≡ N t + P from + s)
    → Told time (sign_of k) (digit_of (nat_abs k)) s
told k from time t s r f e =
    let zero : (P (day_number_of epoch) ≡ 0) × (N (day_number_of epoch) ≡ 0) = (ap P day_zero, ap N day_zero) in
    let d = on_day epoch time k s e.0 (omega (arith, e.1, ap P r, ap N r, zero)) in
    (sym (ap sign_of d.0), sym (ap (λ (z : ℤ). digit_of (nat_abs z)) d.0), sym d.1)
