-- How long the lines are. Assumes nothing.
use Rattle.std.specs.Prelude.{Err, Ok, Result}
use Rattle.prelude.proofs.Logic.{◌≡◌, refl, Bool, true, false, cond, List, [], ◌∷◌, ◌++◌, ℕ, ◌+◌, ◌*◌, ◌≤◌, arith, lit≤, ℤ, length}
use Rattle.prelude.proofs.Logic.{length-append}
use Rattle.calendar.specs.declared.dates.Date.{Date}
use Rattle.hijri.specs.declared.ramadan.Ramadan.{Ramadan}
use Rattle.schedule.specs.declared.{prayer_times.PrayerTimes.PrayerTimes}
use Rattle.refusals.specs.declared.Refusal.{Refusal}
use Rattle.text.specs.Text.{ascii, decimal_of}
use Rattle.text.proofs.TextLaws.{digits_short}
use Rattle.lines.specs.Lines.{date_text, time_text, times_text, imsak_of, nine_of, columns_of, row_text, row_bytes, full_row, row_room}
use Rattle.lines.specs.Lines.{number_text, refused_text, line_text}
use Rattle.lines.specs.Since.{epoch, row_since}

pub date_length : (date : Date) → length (date_text date) ≡ 10
unfolding date_text
date_length date = refl

pub time_length : (date : Date) (time : ℤ) → length (time_text date time) ≡ 12
unfolding time_text
time_length date time = refl

pub times_length : (date : Date) (times : List ℤ) → length (times_text date times) ≡ 12 * length times
unfolding times_text
times_length date [] = refl
times_length date (time ∷ times) =
    let i = times_length date times in
    let a = length-append (time_text date time) (times_text date times) in
    let c = time_length date time in
    omega arith

-- the date, and the times of some date
pub dated_length : (date day : Date) (times : List ℤ)
    → length (date_text date ++ times_text day times ++ ascii "\n") ≡ row_bytes (length times)
dated_length date day times =
    let d = date_length date in
    let c = times_length day times in
    let a = length-append (date_text date) (times_text day times) in
    let b = length-append (date_text date ++ times_text day times) (ascii "\n") in
    omega arith

pub row_length_lem : (date : Date) (times : List ℤ) → length (row_text date times) ≡ row_bytes (length times)
unfolding row_text
row_length_lem date times = dated_length date date times

pub since_length : (date : Date) (times : List ℤ) → length (row_since date times) ≡ row_bytes (length times)
unfolding row_since
since_length date times = dated_length date epoch times

pub number_length : (word : List ℕ) (n : ℕ) → length (number_text word n) ≤ length word + 20
unfolding number_text
number_length word n =
    let a = length-append word (decimal_of n) in
    let d = digits_short 20 n in
    omega arith

pub refused_length : (whose word : List ℕ) (r : Refusal) → length (refused_text whose word r) ≤ length whose + length word + 50
unfolding refused_text
refused_length whose word r =
    let number = number_text (ascii " refused ") r.number in
    let place = number_text word r.place in
    let a = length-append whose number in
    let b = length-append (whose ++ number) place in
    let c = length-append (whose ++ number ++ place) (ascii "\n") in
    let n = number_length (ascii " refused ") r.number in
    let p = number_length word r.place in
    omega arith

pub columns_length : (ramadan : Ramadan) (date : Date) (t : PrayerTimes) → length (row_text date (columns_of ramadan t)) ≡ row_room ramadan
unfolding columns_of row_room
columns_length ramadan date t = go ramadan.set
  where
    go : (b : Bool) → length (row_text date (cond b (imsak_of ramadan.imsak t.fajr ∷ nine_of t) (nine_of t))) ≡ row_bytes (cond b 10 9)
    go true = row_length_lem date (imsak_of ramadan.imsak t.fajr ∷ nine_of t)
    go false = row_length_lem date (nine_of t)

-- 119 or 131
pub full_row_lem : (ramadan : Ramadan) → (full_row ≤ row_room ramadan) × (row_room ramadan ≤ 131)
unfolding row_room
full_row_lem ramadan = go ramadan.set
  where
    go : (b : Bool) → (full_row ≤ row_bytes (cond b 10 9)) × (row_bytes (cond b 10 9) ≤ 131)
    go true = (lit≤ tt, lit≤ tt)
    go false = (lit≤ tt, lit≤ tt)

pub line_length_lem : (ramadan : Ramadan) (date : Date) (worked : Result PrayerTimes Refusal) → length (line_text ramadan date worked) ≤ row_room ramadan
unfolding line_text
line_length_lem ramadan date (Ok t) = let n = columns_length ramadan date t in omega arith
line_length_lem ramadan date (Err r) =
    let d = date_length date in
    let n = refused_length (date_text date) (ascii " day ") r in
    omega (arith, (full_row_lem ramadan).0)
