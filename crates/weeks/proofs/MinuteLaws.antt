-- A row's minute, as it is worked and as it is defined. Assumes nothing.
use Rattle.std.specs.Prelude.{Err, None, Ok, Option, Result}
use Rattle.schedule.specs.declared.prayer_times.PrayerTimes.{PrayerTimes}
use Rattle.refusals.specs.declared.Refusal.{Refusal}
use Rattle.prelude.proofs.Logic.{◌≡◌, refl, ap, ◌∙◌, List, ℕ, ◌+◌, ◌-◌, ◌*◌, ◌/◌, ◌%◌, ◌^◌, ◌<◌, ◌≤◌, arith, lit≤, lit<, ℤ}
use Rattle.prelude.proofs.Logic.{pos, negsuc, ◌+ℤ◌, ◌*ℤ◌, w64, SFits, to_z, to_z_pos, length, set, length-set, get_or-set_same, get_or-set_other}
use Rattle.calendar.specs.Answers.{row_date_of}
use Rattle.days.proofs.RowStates.{state_of, state-worked}
use Rattle.days.specs.Calls.{work_row_of}
use Rattle.integers.proofs.Integers.{Near, floor_quot, floor_rem, Held, held_sum, held_product, held_fits, stored, same, floored, range, read}
use Rattle.integers.proofs.Integers.{read_back, sum, times}
use Rattle.order.specs.{Accepted.Accepted, declared.reading.Order.Order}
use Rattle.schedule.proofs.RowSunsLaws.{suns_fajr}
use Rattle.schedule.specs.{RowSuns.row_suns_of, RowSuns.row_suns_fajr_of}
use Rattle.schedule.specs.{Fajr.fajr_in}
use Rattle.weeks.specs.Report.{minute_in, row_minute}
use Rattle.schedule.specs.declared.{rolling.RowSuns.RowSuns}
use Rattle.weeks.specs.Kept.{minute_from, minute_in_list}
use borrow.Author.Count.{below_more}

-- ---- whole minutes, from whole days and the seconds after them
pub by_days : (z : ℤ) → floor_quot z 86400 *ℤ pos 1440 +ℤ pos (floor_rem z 86400 / 60) ≡ floor_quot z 60
by_days (pos a) =
    let t = times (pos (a / 86400)) 1440 in
    let s = sum (pos (a / 86400) *ℤ pos 1440) (pos (a % 86400 / 60)) in
    same _ (pos (a / 60)) (omega (arith, t.over, t.under, s.balance))
by_days (negsuc a) =
    let r = floor_rem (negsuc a) 86400 / 60 in
    let t = times (negsuc (a / 86400)) 1440 in
    let s = sum (negsuc (a / 86400) *ℤ pos 1440) (pos r) in
    same _ (negsuc (a / 60)) (omega (arith, t.over, t.under, s.balance))

-- the whole days of an i64 of seconds
pub days_near : (z : ℤ) → SFits w64 z → Near (2 ^ 48) (floor_quot z 86400)
days_near (pos a) h = let r = range w64 (pos a) h in record { from = omega arith; to = omega (arith, r) }
days_near (negsuc a) h = let r = range w64 (negsuc a) h in record { from = omega (arith, r); to = omega arith }

-- the same at the values that the machine reads back: `d` is the days, `n` the seconds after them
module _ (z : ℤ) (f : SFits w64 z) (d : ℤ) (n : ℕ) (k : read_back w64 d ≡ d) (days : d ≡ floor_quot (read_back w64 z) 86400)
    (rest : n ≡ floor_rem (read_back w64 z) 86400) where
  whole : Held (2 ^ 48) (read_back w64 d) (floor_quot z 86400)
  whole = record { is = k ∙ days ∙ ap (λ (i : ℤ). floor_quot i 86400) (read w64 z f); near = days_near z f }

  pub whole-fits : SFits w64 (read_back w64 d *ℤ pos 1440)
  whole-fits = held_fits (held_product whole 1440) (lit≤ tt)

  left : Held 1440 (to_z w64 (n / 60)) (pos (floor_rem z 86400 / 60))
  left =
      let b = (floored z 86400 (lit< tt)).below in
      let e : n ≡ floor_rem z 86400 = rest ∙ ap (λ (i : ℤ). floor_rem i 86400) (read w64 z f) in
      record {
        is = to_z_pos w64 {n = n / 60} (omega arith) ∙ ap (λ (i : ℕ). pos (i / 60)) e;
        near = record { from = omega arith; to = omega arith };
      }

  minutes : Held (2 ^ 48 * 1440 + 1440) (read_back w64 (read_back w64 d *ℤ pos 1440) +ℤ to_z w64 (n / 60))
      (floor_quot z 86400 *ℤ pos 1440 +ℤ pos (floor_rem z 86400 / 60))
  minutes = held_sum (stored (held_product whole 1440) (lit≤ tt)) left

  pub minutes_fit_lem : SFits w64 (read_back w64 (read_back w64 d *ℤ pos 1440) +ℤ to_z w64 (n / 60))
  minutes_fit_lem = held_fits minutes (lit≤ tt)

  pub minutes_read : read_back w64 (read_back w64 (read_back w64 d *ℤ pos 1440) +ℤ to_z w64 (n / 60)) ≡ floor_quot z 60
  minutes_read = (stored minutes (lit≤ tt)).is ∙ by_days z

-- ---- the minute of a row of an order
pub minute_is : (o : Order) (row : ℕ) (w : Result PrayerTimes Refusal) → minute_from (fajr_in (row_date_of o.date row) w) ≡ minute_in o row w
unfolding minute_from fajr_in minute_in
minute_is o row (Ok t) = refl
minute_is o row (Err r) = refl

pub state_minute : (o : Order) → Accepted o → (k : ℕ) → k < o.rows
    → minute_from (row_suns_fajr_of o.setting (state_of o k)) ≡ row_minute o k
unfolding row_suns_of
state_minute o a k h =
    ap minute_from (suns_fajr o.setting (state_of o k))
    ∙ ap (λ (w : Result PrayerTimes Refusal). minute_from (fajr_in (row_date_of o.date k) w)) (state-worked o a k h)
    ∙ minute_is o k (work_row_of o k)

-- ---- rows that are kept. Before a row the suns are those of the row before it, or at first those of row 0. `lent` are the minutes at first.
pub record Run (o : Order) (lent minutes : List (Option ℤ)) (suns : RowSuns) (row : ℕ) : Type 0 where
  pub state : suns ≡ state_of o (row - 1)
  pub long : length minutes ≡ 400
  pub done : (k : ℕ) → k < row → minute_in_list minutes k ≡ row_minute o k
  pub rest : (k : ℕ) → row ≤ k → minute_in_list minutes k ≡ minute_in_list lent k

-- after a row: its minute is kept too
pub row_done : (o : Order) → Accepted o → (lent kept : List (Option ℤ)) (suns : RowSuns) (row : ℕ) → row < o.rows → suns ≡ state_of o row
    → length kept ≡ 400 → ((k : ℕ) → k < row → minute_in_list kept k ≡ row_minute o k)
    → ((k : ℕ) → row ≤ k → minute_in_list kept k ≡ minute_in_list lent k)
    → (minute : Option ℤ) → minute ≡ minute_from (row_suns_fajr_of o.setting suns) → Run o lent (set kept row minute) suns (row + 1)
row_done o a lent kept suns row h state long done rest minute is =
    let room : row < length kept = omega (arith, a.rows.1) in
    let e : row ≡ row + 1 - 1 = omega arith in
    record {
      state = state ∙ ap (state_of o) e;
      long = length-set kept row minute ∙ long;
      done = below_more (λ (k : ℕ). minute_in_list (set kept row minute) k ≡ row_minute o k) row
          (λ k b. get_or-set_other kept row k minute None (λ e. omega arith) ∙ done k b)
          (get_or-set_same kept row minute None room ∙ is ∙ ap (λ (s : RowSuns). minute_from (row_suns_fajr_of o.setting s)) state
          ∙ state_minute o a row h);
      rest = λ k b. get_or-set_other kept row k minute None (λ e. omega arith) ∙ rest k (omega arith);
    }
