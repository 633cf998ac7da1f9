-- The suns that roll over the rows of an order are those of each row's date, and give each row's day. Assumes nothing.
use Rattle.std.specs.Prelude.{Result}
use Rattle.schedule.specs.declared.prayer_times.PrayerTimes.{PrayerTimes}
use Rattle.refusals.specs.declared.Refusal.{Refusal}
use Rattle.prelude.proofs.Logic.{◌≡◌, sym, ap, ◌∙◌, ℕ, ◌+◌, ◌-◌, ◌<◌, ◌≤◌, arith, lt-ltb}
use Rattle.calendar.proofs.Calendar.{row_date_of, row_first, row_is, row-tomorrow}
use Rattle.calendar.specs.declared.dates.Date.{Date}
use Rattle.order.specs.Accepted.{Accepted}
use Rattle.order.proofs.RowDates.{row-year}
use Rattle.order.specs.declared.reading.Order.{Order}
use Rattle.schedule.specs.RowSuns.{row_suns_of, next_row_suns_of, row_suns_worked_of}
use Rattle.schedule.proofs.RowSunsLaws.{first_row, rolls}
use Rattle.schedule.specs.declared.rolling.RowSuns.{RowSuns}
use Rattle.days.specs.Calls.{work_row_of}

-- the suns of a row
abbrev pub state_of : Order → ℕ → RowSuns
state_of o k = row_suns_of (row_date_of o.date k) o.setting

-- the day that suns give
abbrev pub worked_by_suns : Order → RowSuns → Result PrayerTimes Refusal
worked_by_suns o suns = row_suns_worked_of o.setting suns

module _ (o : Order) (a : Accepted o) where
  pub first-state : row_suns_of o.date o.setting ≡ state_of o 0
  first-state =
      let d = o.date in
      let there = a.date.there in
      let y = row-year d there 0 (a.row 0 a.rows.0).to in
      ap (λ (x : Date). row_suns_of x o.setting) (sym (row_is d there 0 (omega arith) ∙ row_first d there))

  module _ (k : ℕ) (h : k < o.rows) where
    pub next-state : next_row_suns_of o.setting (state_of o k) ≡ state_of o (k + 1)
    next-state =
        let d = o.date in
        let there = a.date.there in
        let r = a.row k h in
        let from = r.from in
        let to = r.to in
        let y = row-year d there k to in
        rolls (row_date_of d k) o.setting r.there (omega arith) to
        ∙ ap (λ (x : Date). row_suns_of x o.setting) (sym (row-tomorrow d there k (omega arith)))

    pub state-worked : worked_by_suns o (state_of o k) ≡ work_row_of o k
    unfolding work_row_of
    state-worked = simp (lt-ltb k o.rows h) (first_row (row_date_of o.date k) o.setting)

  -- Suns that are kept from row to row: before a row they are those of the row before it, or at first those of row 0.
  pub rolled : (k : ℕ) → k < o.rows → (suns : RowSuns) → suns ≡ state_of o (k - 1) → 0 < k → next_row_suns_of o.setting suns ≡ state_of o k
  rolled k h suns s some =
      let e : k - 1 + 1 ≡ k = omega arith in
      ap (next_row_suns_of o.setting) s ∙ next-state (k - 1) (omega arith) ∙ ap (state_of o) e

  pub at_first : (k : ℕ) (suns : RowSuns) → suns ≡ state_of o (k - 1) → k ≤ 0 → suns ≡ state_of o k
  at_first k suns s none = let e : k - 1 ≡ k = omega arith in s ∙ ap (state_of o) e
