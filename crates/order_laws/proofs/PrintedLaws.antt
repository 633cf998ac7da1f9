-- Ok near their date have days of one digit, and so has imsak. Assumes nothing.
use Rattle.std.specs.Prelude.{Ok}
use Rattle.prelude.proofs.Logic.{◌≡◌, sym, subst, ℕ, zero, suc, ◌+◌, ◌*◌, ◌^◌, ◌≤◌, ◌<◌, arith, ltb, lit<}
use Rattle.prelude.proofs.Logic.{ℤ, pos, negsuc, nat_abs, ◌-ℤ◌, ◌*ℤ◌, get_or, ltb-true, cases}
use Rattle.integers.specs.Ends.{least64}
use Rattle.integers.proofs.Integers.{P, N, floor_quot, to_le, floored, difference, times}
use Rattle.calendar.proofs.Calendar.{row_date_of, day_number_of}
use Rattle.calendar.specs.declared.dates.Date.{Date}
use Rattle.days.specs.Calls.{work_row_of}
use Rattle.lines.specs.Lines.{days_of, nine_of, imsak_of}
use Rattle.order.specs.{Accepted.Accepted, declared.reading.Order.Order}
use Rattle.models.specs.declared.prayer.Prayer.TheVariants.{Fajr, Sunrise, Dhuhr, Asr, Maghrib, Isha, Qiyam, FajrTomorrow}
use Rattle.schedule.proofs.Schedule.{start_near, numbers_of, start_of, season_of, worked_at, time_of}
use Rattle.schedule.specs.declared.{prayer_times.PrayerTimes.PrayerTimes}
use Rattle.schedule_laws.specs.Range.{OfDate, AllOfDate}
use Rattle.schedule_laws.proofs.RangeLaws.{times_lie_by_their_date}
use Rattle.order_laws.specs.{Imsak.ImsakIsPrintedWhole, Printed.DaysArePrintedWhole}

-- one of the two parts is 0
small : (k : ℕ) (z : ℤ) → P z ≤ N z + k → N z ≤ P z + k → nat_abs z ≤ k
small k (pos n) a b = omega arith
small k (negsuc n) a b = omega arith

-- a time from k days before 0h of its date to before k + 1 days after it prints at most k days
days_within : (k : ℕ) (date : Date) (time : ℤ) → N (time -ℤ start_of date) ≤ P (time -ℤ start_of date) + k * 86400
    → P (time -ℤ start_of date) < N (time -ℤ start_of date) + (k + 1) * 86400 → nat_abs (days_of date time) ≤ k
unfolding start_of
days_within k date time from before =
    let f = floored time 86400 (lit< tt) in
    let d = difference (floor_quot time 86400) (day_number_of date) in
    let m = times (day_number_of date) 86400 in
    let s = difference time (day_number_of date *ℤ pos 86400) in
    small k (days_of date time) (omega (arith, f.balance, f.below, d.0, d.1, m, s.0, s.1))
    (omega (arith, f.balance, f.below, d.0, d.1, m, s.0, s.1))

one_digit : (date : Date) (time : ℤ) → OfDate date time → nat_abs (days_of date time) ≤ 4
one_digit date time h = days_within 4 date time (omega (arith, h.from)) (omega (arith, h.before))

nine_digits : (date : Date) (t : PrayerTimes) → AllOfDate date t → (i : ℕ) → i < 9 → nat_abs (days_of date (get_or (nine_of t) i (pos 0))) ≤ 4
unfolding time_of
nine_digits date t a zero l = one_digit date t.fajr (a.named Fajr)
nine_digits date t a (suc zero) l = one_digit date t.sunrise (a.named Sunrise)
nine_digits date t a (suc (suc zero)) l = one_digit date t.dhuhr (a.named Dhuhr)
nine_digits date t a (suc (suc (suc zero))) l = one_digit date t.asr (a.named Asr)
nine_digits date t a (suc (suc (suc (suc zero)))) l = one_digit date t.maghrib (a.named Maghrib)
nine_digits date t a (suc (suc (suc (suc (suc zero))))) l = one_digit date t.isha (a.named Isha)
nine_digits date t a (suc (suc (suc (suc (suc (suc zero)))))) l = one_digit date t.middle_of_the_night a.middle_of_the_night
nine_digits date t a (suc (suc (suc (suc (suc (suc (suc zero))))))) l = one_digit date t.qiyam (a.named Qiyam)
nine_digits date t a (suc (suc (suc (suc (suc (suc (suc (suc zero)))))))) l = one_digit date t.fajr_tomorrow (a.named FajrTomorrow)
nine_digits date t a (suc (suc (suc (suc (suc (suc (suc (suc (suc i))))))))) l = absurd (omega arith)

-- a row with times is one that the order has
row_worked : (order : Order) (row : ℕ) (t : PrayerTimes) → work_row_of order row ≡ Ok t
    → (row < order.rows) × (worked_at (row_date_of order.date row) order.setting ≡ Ok t)
unfolding work_row_of
row_worked order row t e =
    cases (ltb row order.rows) (λ h. (ltb-true row order.rows h, simp h at e))
    (λ h. let z : ◌≡◌ {A = ℕ} 0 1 = cc in absurd (omega arith))

-- the times of a row are near its date
by_its_date : (order : Order) (row : ℕ) (t : PrayerTimes) → Accepted order → work_row_of order row ≡ Ok t
    → AllOfDate (row_date_of order.date row) t
by_its_date order row t h e =
    let date = row_date_of order.date row in
    let p = order.setting.parameters in
    times_lie_by_their_date order.setting.rules.midnight (numbers_of date order.setting.coordinates p) date
    (season_of order.setting) p t h.latitude h.parameters (row_worked order row t e).1

pub days_are_printed_whole : DaysArePrintedWhole
days_are_printed_whole order row t i h e l = nine_digits (row_date_of order.date row) t (by_its_date order row t h e) i l

-- ---- imsak
-- it is exactly the minutes before Fajr
imsak_exact : (date : Date) (fajr : ℤ) (m : ℕ) → date.year < 2 ^ 32 → m ≤ 30 → OfDate date fajr → imsak_of m fajr ≡ fajr -ℤ pos (60 * m)
unfolding imsak_of start_of
imsak_exact date fajr m y l h =
    let n = start_near date y in
    let s = difference fajr (day_number_of date *ℤ pos 86400) in
    let d = difference fajr (pos (60 * m)) in
    rw (to_le least64 (fajr -ℤ pos (60 * m)) (omega (arith, n.from, n.to, s.0, s.1, d.0, d.1, h.from, h.before)))

imsak_digit : (date : Date) (fajr : ℤ) (m : ℕ) → m ≤ 30 → OfDate date fajr → nat_abs (days_of date (fajr -ℤ pos (60 * m))) ≤ 5
imsak_digit date fajr m l h =
    let time = fajr -ℤ pos (60 * m) in
    let e = difference fajr (pos (60 * m)) in
    let f = difference fajr (start_of date) in
    let d = difference time (start_of date) in
    days_within 5 date time (omega (arith, d.0, d.1, e.0, e.1, f.0, f.1, h.from, h.before))
    (omega (arith, d.0, d.1, e.0, e.1, f.0, f.1, h.from, h.before))

pub row_imsak : (order : Order) (row : ℕ) (t : PrayerTimes) → Accepted order → work_row_of order row ≡ Ok t
    → imsak_of order.ramadan.imsak t.fajr ≡ t.fajr -ℤ pos (60 * order.ramadan.imsak)
unfolding time_of
row_imsak order row t h e =
    let y = (h.row row (row_worked order row t e).0).to in
    imsak_exact (row_date_of order.date row) t.fajr order.ramadan.imsak (omega arith) h.imsak
    ((by_its_date order row t h e).named Fajr)

pub imsak_is_printed_whole : ImsakIsPrintedWhole
unfolding time_of
imsak_is_printed_whole order row t h e =
    let date = row_date_of order.date row in
    let exact = row_imsak order row t h e in
    let digit = imsak_digit date t.fajr order.ramadan.imsak h.imsak ((by_its_date order row t h e).named Fajr) in
    record { exact = exact; days = subst (λ (z : ℤ). nat_abs (days_of date z) ≤ 5) (sym exact) digit }
