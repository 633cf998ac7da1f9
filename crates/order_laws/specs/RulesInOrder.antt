-- Demand 1, "the first broken rule in the stated order gives the number", for whole calls on a row: "Buffer and instant are checked before
-- anything else in their calls. Then the order is read, then the row .. Then comes the day, then 11." Proved in proofs/RulesInOrderLaws.
use Rattle.models.specs.declared.prayer.Prayer.{Prayer}
use Rattle.schedule.specs.declared.prayer_times.PrayerTimes.{PrayerTimes}
use Rattle.std.specs.Prelude.{ℕ, ◌≡◌, false, not, cond, List, [], ◌∷◌, ◌++◌, eqb, ltb, length, Err, None, Ok, Option, Result, Some}
use Rattle.refusals.specs.Refusals.{refusal, no_refusal, buffer_short, instant_beyond, none_in_force}
use Rattle.refusals.specs.declared.Refusal.{Refusal}
use Rattle.calendar.specs.Answers.{row_date_of}
use Rattle.days.specs.Calls.{work_date_of, work_day_of, lacks_row, instant_fits, prayer_at_of, next_at_of, remaining_at_of}
use Rattle.fields.specs.Fields.{check_of}
use Rattle.fields.specs.Values.{values_of}
use Rattle.lines.specs.Lines.{full_row, row_room}
use Rattle.order.specs.Reading.{checks_of, order_of}
use Rattle.schedule.specs.declared.in_force.Instant.{Instant}
use Rattle.sheets.specs.Rows.{row_call_of}
use Rattle.order_laws.specs.NothingBreaks.{FirstBroken}

abbrev pub day_rule : Result PrayerTimes Refusal → Refusal
day_rule (Ok t) = no_refusal
day_rule (Err r) = r

abbrev pub none_rule : Result (Option Prayer) Refusal → Refusal
none_rule (Ok (Some prayer)) = no_refusal
none_rule (Ok None) = refusal none_in_force 0
none_rule (Err r) = no_refusal

abbrev pub short_rule : List ℕ → ℕ → Refusal
short_rule buffer room = cond (ltb (length buffer) room) (refusal buffer_short 0) no_refusal

-- the stated order, each rule by its refusal: the call's buffer or instant, the order's rules, the room for Ramadan, the row, the day, 11
abbrev pub call_rules : Refusal → Refusal → Refusal → List ℕ → ℕ → List Refusal
call_rules first room none s row = let o = order_of (values_of s) in
    first ∷ (check_of s ∷ checks_of (values_of s)) ++ room ∷ cond (not (ltb row o.rows)) lacks_row no_refusal
    ∷ day_rule (work_date_of o (row_date_of o.date row)) ∷ none ∷ []

abbrev pub instant_rules : Instant → Refusal → List ℕ → ℕ → List Refusal
instant_rules i = call_rules (cond (not (instant_fits i)) (refusal instant_beyond 0) no_refusal) no_refusal

pub record FirstRuleRefuses (s : List ℕ) (row : ℕ) : Type 0 where
  pub line : (buffer : List ℕ) → eqb (row_call_of s row buffer).answer.number 0 ≡ false → FirstBroken (row_call_of s row buffer).answer
      (call_rules (short_rule buffer full_row) (short_rule buffer (row_room (order_of (values_of s)).ramadan)) no_refusal s row)
  pub day : (r : Refusal) → work_day_of s row ≡ Err r → FirstBroken r (call_rules no_refusal no_refusal no_refusal s row)
  pub prayer : (i : Instant) (r : Refusal) → prayer_at_of s row i ≡ Err r → FirstBroken r (instant_rules i no_refusal s row)
  pub next : (i : Instant) (r : Refusal) → next_at_of s row i ≡ Err r
      → FirstBroken r (instant_rules i (none_rule (prayer_at_of s row i)) s row)
  pub remaining : (i : Instant) (r : Refusal) → remaining_at_of s row i ≡ Err r
      → FirstBroken r (instant_rules i (none_rule (prayer_at_of s row i)) s row)
