-- A row's line from times since 0h of its date is the line from its times since 1970. Assumes nothing.
use Rattle.std.specs.Prelude.{Err, Ok, Result}
use Rattle.refusals.specs.declared.Refusal.{Refusal}
use Rattle.prelude.proofs.Logic.{◌≡◌, refl, ap, ◌∙◌, Bool, true, false, cond, List, [], ◌∷◌, ◌++◌, ℕ, ◌*◌, ◌^◌, ◌<◌, arith, lit<, ℤ, pos}
use Rattle.prelude.proofs.Logic.{◌+ℤ◌, ◌-ℤ◌, ◌*ℤ◌}
use Rattle.integers.proofs.Integers.{Near, floor_quot, floor_rem, floored, same, to_le, sum, difference, times}
use Rattle.integers.specs.Ends.{least64}
use Rattle.calendar.specs.Days.{day_number_of}
use Rattle.calendar.specs.declared.dates.Date.{Date}
use Rattle.hijri.specs.declared.ramadan.Ramadan.{Ramadan}
use Rattle.schedule.proofs.Starts.{start_near}
use Rattle.schedule.specs.Each.{NearIn}
use Rattle.schedule.specs.Times.{start_of, started_of, started_in}
use Rattle.schedule.specs.declared.prayer_times.PrayerTimes.{PrayerTimes}
use Rattle.text.specs.Text.{ascii}
use Rattle.lines.specs.Lines.{time_text, imsak_of, nine_of, columns_of, times_text, date_text, row_text, line_text}
use Rattle.lines.specs.Since.{epoch, row_since, line_since}
use Rattle.lines.proofs.Moments.{on_day, since_days}

-- ---- a time
module _ (date : Date) where
  time-since : (t : ℤ) → time_text date (start_of date +ℤ t) ≡ time_text epoch t
  unfolding time_text start_of
  time-since t =
      let d = day_number_of date in
      let f = floored t 86400 (lit< tt) in
      let s = sum (d *ℤ pos 86400) t in
      let m = times d 86400 in
      let on = on_day date (d *ℤ pos 86400 +ℤ t) (floor_quot t 86400) (floor_rem t 86400) f.below (omega (arith, f.balance, s, m)) in
      let days = on.0 ∙ since_days t in
      simp (days, on.1)

  since : List ℤ → List ℤ
  since [] = []
  since (t ∷ ts) = (start_of date +ℤ t) ∷ since ts

  times-since : (ts : List ℤ) → times_text date (since ts) ≡ times_text epoch ts
  unfolding since times_text
  times-since [] = refl
  times-since (t ∷ ts) = simp (time-since t, times-since ts)

  -- ---- imsak, which no time near its date brings to the end of 64 bits
  imsak-since : (m : ℕ) (fajr : ℤ) → m < 2 ^ 32 → date.year < 2 ^ 32 → Near (2 ^ 43) fajr
      → imsak_of m (start_of date +ℤ fajr) ≡ start_of date +ℤ imsak_of m fajr
  unfolding imsak_of start_of
  imsak-since m fajr small year near =
      let start = day_number_of date *ℤ pos 86400 in
      let n = start_near date year in
      let s = sum start fajr in
      let a = difference (start +ℤ fajr) (pos (60 * m)) in
      let b = difference fajr (pos (60 * m)) in
      let e = sum start (fajr -ℤ pos (60 * m)) in
      rw (
        to_le least64 (start +ℤ fajr -ℤ pos (60 * m)) (omega (arith, a.0, a.1, s, n.from, near.from)),
        to_le least64 (fajr -ℤ pos (60 * m)) (omega (arith, b.0, b.1, near.from)),
      )
      (same (start +ℤ fajr -ℤ pos (60 * m)) (start +ℤ (fajr -ℤ pos (60 * m))) (omega (arith, a.0, a.1, b.0, b.1, s, e)))

  module _ (ramadan : Ramadan) (t : PrayerTimes) (small : ramadan.imsak < 2 ^ 32) (year : date.year < 2 ^ 32)
      (near : Near (2 ^ 43) t.fajr) where
    columns-since : columns_of ramadan (started_of (start_of date) t) ≡ since (columns_of ramadan t)
    unfolding columns_of started_of since
    columns-since = go ramadan.set
      where
        go : (b : Bool) → cond b (imsak_of ramadan.imsak (start_of date +ℤ t.fajr) ∷ since (nine_of t)) (since (nine_of t))
            ≡ since (cond b (imsak_of ramadan.imsak t.fajr ∷ nine_of t) (nine_of t))
        go true = ap (λ (z : ℤ). z ∷ since (nine_of t)) (imsak-since ramadan.imsak t.fajr small year near)
        go false = refl

    pub row-since : row_text date (columns_of ramadan (started_of (start_of date) t)) ≡ row_since date (columns_of ramadan t)
    unfolding row_text row_since
    row-since =
        ap (λ (ts : List ℤ). date_text date ++ times_text date ts ++ ascii "\n") columns-since
        ∙ ap (λ (text : List ℕ). date_text date ++ text ++ ascii "\n") (times-since (columns_of ramadan t))

-- ---- a line, whether the day has times or not
pub line_since_lem : (ramadan : Ramadan) (date : Date) (w : Result PrayerTimes Refusal) → ramadan.imsak < 2 ^ 32 → date.year < 2 ^ 32
    → NearIn w → line_text ramadan date (started_in date w) ≡ line_since ramadan date w
unfolding line_text line_since started_in NearIn
line_since_lem ramadan date (Ok t) small year near = row-since date ramadan t small year near.fajr
line_since_lem ramadan date (Err r) small year near = refl
