-- The minute of the day by the clock: instant and clock may each be taken within the day before they are added. Assumes nothing.
use Rattle.std.specs.Prelude.{Err, Ok, Result}
use Rattle.schedule.specs.declared.prayer_times.PrayerTimes.{PrayerTimes}
use Rattle.refusals.specs.declared.Refusal.{Refusal}
use Rattle.prelude.proofs.Logic.{◌≡◌, refl, sym, ap, subst, ◌∙◌, ℕ, ◌+◌, ◌/◌, ◌%◌, arith, ℤ, pos, ◌+ℤ◌, ◌*ℤ◌, w32, w64, SFits}
use Rattle.integers.proofs.Integers.{floored, range, fits, read_back, read, read_wide, sum, times, floor_quot, floor_rem}
use Rattle.calendar.specs.{Days.day_number_of, declared.dates.Date.Date}
use Rattle.schedule.specs.Times.{start_of, started_of, started_in}
use Rattle.braille.specs.Cells.{clock_minute_of, time_cells, times_cells, row_cells}

-- the clock in seconds, as the machine reads it
seconds_fit : (clock : ℤ) → SFits w32 clock → SFits w64 (clock *ℤ pos 60)
seconds_fit clock h =
    let r = range w32 clock h in
    let k = times clock 60 in
    fits w64 (clock *ℤ pos 60) (omega (arith, r.high, r.low, k.over, k.under)) (omega (arith, r.high, r.low, k.over, k.under))

module _ (clock : ℤ) (h : SFits w32 clock) where
  pub clock_fits_lem : SFits w64 (read_back w64 (read_back w32 clock) *ℤ pos 60)
  clock_fits_lem = subst (λ (z : ℤ). SFits w64 (z *ℤ pos 60)) (sym (read_wide clock h)) (seconds_fit clock h)

  pub clock-read : read_back w64 (read_back w64 (read_back w32 clock) *ℤ pos 60) ≡ clock *ℤ pos 60
  clock-read = read w64 (read_back w64 (read_back w32 clock) *ℤ pos 60) clock_fits_lem ∙ ap (λ (z : ℤ). z *ℤ pos 60) (read_wide clock h)

pub minute_within : (clock time : ℤ) → (floor_rem time 86400 + floor_rem (clock *ℤ pos 60) 86400) / 60 % 1440 ≡ clock_minute_of clock time
unfolding clock_minute_of
minute_within clock time =
    let x = time +ℤ clock *ℤ pos 60 in
    let q = floor_quot x 60 in
    let k = times clock 60 in
    let s = sum time (clock *ℤ pos 60) in
    let a = floored x 60 (omega arith) in
    let b = floored q 1440 (omega arith) in
    let t = floored time 86400 (omega arith) in
    let c = floored (clock *ℤ pos 60) 86400 (omega arith) in
    omega (arith, k.over, k.under, s.balance, a.balance, a.below, b.balance, b.below, t.balance, t.below, c.balance, c.below)

-- ---- a time's cells do not have its day, so times since 0h of the row's date give the same cells
module _ (date : Date) (clock : ℤ) where
  time-since : (t : ℤ) → time_cells clock (start_of date +ℤ t) ≡ time_cells clock t
  unfolding time_cells start_of
  time-since t =
      let d = day_number_of date in
      let x = d *ℤ pos 86400 +ℤ t in
      let m = times d 86400 in
      let s = sum (d *ℤ pos 86400) t in
      let a = floored x 86400 (omega arith) in
      let b = floored t 86400 (omega arith) in
      let second : floor_rem x 86400 ≡ floor_rem t 86400 =
      omega (arith, m.over, m.under, s.balance, a.balance, a.below, b.balance, b.below) in
      let minute = sym (minute_within clock x)
      ∙ ap (λ (r : ℕ). (r + floor_rem (clock *ℤ pos 60) 86400) / 60 % 1440) second ∙ minute_within clock t in
      simp minute

  pub cells-since : (w : Result PrayerTimes Refusal) → row_cells date (started_in date w) clock ≡ row_cells date w clock
  unfolding row_cells times_cells started_in started_of
  cells-since (Ok t) =
      simp (
        time-since t.fajr,
        time-since t.sunrise,
        time-since t.dhuhr,
        time-since t.asr,
        time-since t.maghrib,
        time-since t.isha,
      )
  cells-since (Err r) = refl
