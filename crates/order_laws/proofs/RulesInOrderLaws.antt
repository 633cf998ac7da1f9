-- Each call on a row is refused by the first broken rule of its list. Every call's refusal is computed from that list by `broken`: the
-- order's rules, the row, the day and 11 in turn. Assumes nothing.
use Rattle.std.specs.Prelude.{Err, None, Ok, Option, Result, Some}
use Rattle.models.specs.declared.prayer.Prayer.{Prayer}
use Rattle.schedule.specs.declared.prayer_times.PrayerTimes.{PrayerTimes}
use Rattle.prelude.proofs.Logic.{◌≡◌, refl, sym, ap, ◌∙◌, subst, true, false, not, cond, true≢false, List, [], ◌∷◌, ◌++◌, ℕ, arith, ltb}
use Rattle.prelude.proofs.Logic.{eqb, length, cases}
use Rattle.calendar.specs.Answers.{row_date_of}
use Rattle.calendar.specs.declared.dates.Date.{Date}
use Rattle.days.specs.Calls.{work_date_of, lacks_row, work_row_of, work_reading_of, work_day_of, instant_fits, work_at_of, in_force_of, prayer_at_of}
use Rattle.days.specs.Calls.{next_prayer_in, next_prayer_of, next_at_of, time_until_in, time_until_of, remaining_at_of}
use Rattle.fields.specs.{Fields.check_of, Values.values_of}
use Rattle.lines.specs.Lines.{full_row, row_room}
use Rattle.order.specs.Reading.{checks_of, order_of, first_of, reading_of}
use Rattle.order.specs.declared.reading.{Order.Order}
use Rattle.refusals.specs.{Refusals.refusal, Refusals.no_refusal, declared.Refusal.Refusal}
use Rattle.schedule.specs.InForce.{current_time_of, following_current_of, until_of}
use Rattle.schedule.specs.declared.{in_force.Instant.Instant}
use Rattle.sheets.specs.Rows.{worked_call_of, read_call_of, row_call_of}
use Rattle.order_laws.specs.NothingBreaks.{FirstBroken}
use Rattle.order_laws.specs.RulesInOrder.{day_rule, none_rule, short_rule, call_rules, instant_rules, FirstRuleRefuses}
use Rattle.order_laws.proofs.NothingBreaksLaws.{day_number, order_number, refused_day}

-- ---- lists of rules: the first one that refuses something
abbrev broken : List Refusal → Refusal
broken [] = no_refusal
broken (q ∷ rest) = cond (eqb q.number 0) (broken rest) q

first : (rules : List Refusal) → eqb (broken rules).number 0 ≡ false → FirstBroken (broken rules) rules
first [] n = absurd (true≢false n)
first (q ∷ rest) n =
    cases (eqb q.number 0) (λ h. simp h (FirstBroken.later h (first rest (simp h at n)))) (λ h. simp h (FirstBroken.here h))

given : (rules : List Refusal) (r : Refusal) → broken rules ≡ r → eqb r.number 0 ≡ false → FirstBroken r rules
given rules r e n = subst (λ (x : Refusal). FirstBroken x rules) e (first rules (rw e n))

-- rules that refuse nothing may come before; after one that refuses, no other counts
passed : (rules more : List Refusal) → eqb (broken rules).number 0 ≡ true → broken (rules ++ more) ≡ broken more
passed [] more n = refl
passed (q ∷ rest) more n =
    cases (eqb q.number 0) (λ h. simp h (passed rest more (simp h at n))) (λ h. absurd (true≢false (sym n ∙ simp h)))

stopped : (rules more : List Refusal) → eqb (broken rules).number 0 ≡ false → broken (rules ++ more) ≡ broken rules
stopped [] more n = absurd (true≢false n)
stopped (q ∷ rest) more n = cases (eqb q.number 0) (λ h. simp h (stopped rest more (simp h at n))) (λ h. simp h)

-- reading an order follows its rules
read_by : (rules : List Refusal) (o : Order)
    → first_of rules o ≡ cond (eqb (broken rules).number 0) (Ok o) (Err (broken rules))
unfolding first_of
read_by [] o = refl
read_by (q ∷ rest) o = cases (eqb q.number 0) (λ h. simp h (read_by rest o)) (λ h. simp h)

-- ---- the row and its day: what refuses is the day, or the last rule if the day has times
abbrev answer : Result PrayerTimes Refusal → Refusal → Refusal
answer (Ok t) none = broken (none ∷ [])
answer (Err r) none = r

abbrev row_rules : Order → ℕ → Refusal → List Refusal
row_rules o row none =
    cond (not (ltb row o.rows)) lacks_row no_refusal ∷ day_rule (work_date_of o (row_date_of o.date row)) ∷ none ∷ []

by_day : (o : Order) (date : Date) (none : Refusal) (w : Result PrayerTimes Refusal) → work_date_of o date ≡ w → broken (day_rule w ∷ none ∷ []) ≡ answer w none
by_day o date none (Ok t) e = refl
by_day o date none (Err r) e = simp (day_number r.number (refused_day o date r e).number)

by_row : (o : Order) (row : ℕ) (none : Refusal) → broken (row_rules o row none) ≡ answer (work_row_of o row) none
unfolding work_row_of
by_row o row none =
    cases (ltb row o.rows) (λ h. simp h (by_day o (row_date_of o.date row) none (work_date_of o (row_date_of o.date row)) refl))
    (λ h. simp h)

module _ (s : List ℕ) (row : ℕ) where
  abbrev rules : List Refusal
  rules = check_of s ∷ checks_of (values_of s)

  abbrev order : Order
  order = order_of (values_of s)

  -- ---- writing a row
  by-worked : (buffer : List ℕ) (date : Date) (w : Result PrayerTimes Refusal) → (worked_call_of order.ramadan date w buffer).answer ≡ answer w no_refusal
  unfolding worked_call_of
  by-worked buffer date (Ok t) = refl
  by-worked buffer date (Err r) = refl

  by-room : (buffer : List ℕ)
      → (read_call_of order row buffer).answer ≡ broken (short_rule buffer (row_room order.ramadan) ∷ row_rules order row no_refusal)
  unfolding read_call_of
  by-room buffer =
      cases (ltb (length buffer) (row_room order.ramadan)) (λ k. simp k)
      (λ k. simp k (by-worked buffer (row_date_of order.date row) (work_row_of order row) ∙ sym (by_row order row no_refusal)))

  line_first : (buffer : List ℕ) → (row_call_of s row buffer).answer
      ≡ broken (call_rules (short_rule buffer full_row) (short_rule buffer (row_room order.ramadan)) no_refusal s row)
  unfolding row_call_of reading_of
  line_first buffer =
      let more = short_rule buffer (row_room order.ramadan) ∷ row_rules order row no_refusal in
      cases (ltb (length buffer) full_row) (λ h. simp h)
      (λ h. rw (h, read_by rules order)
      (cases (eqb (broken rules).number 0) (λ g. rw g (by-room buffer ∙ sym (passed rules more g)))
      (λ g. rw g (sym (stopped rules more g)))))

  -- ---- a day
  by_order : (none : Refusal) → broken (call_rules no_refusal no_refusal none s row) ≡ answer (work_day_of s row) none
  unfolding work_day_of work_reading_of reading_of
  by_order none =
      rw (read_by rules order)
      (cases (eqb (broken rules).number 0)
      (λ g. rw g (passed rules (no_refusal ∷ row_rules order row none) g ∙ by_row order row none))
      (λ g. rw g (stopped rules (no_refusal ∷ row_rules order row none) g)))

  -- a refused day has a number
  pub day_refused : (r : Refusal) (x : Result Order Refusal) → reading_of s ≡ x → work_reading_of x row ≡ Err r → eqb r.number 0 ≡ false
  unfolding work_reading_of work_row_of
  day_refused r (Err q) e w = let same : q ≡ r = cc in order_number s r (rw (← same) e)
  day_refused r (Ok o) e w =
      cases (ltb row o.rows) (λ h. day_number r.number (refused_day o (row_date_of o.date row) r (simp h at w)).number)
      (λ h. let same : lacks_row ≡ r = cc in rw (← same) refl)

  -- ---- an instant
  module _ (i : Instant) where
    by-instant : (none : Refusal) → broken (instant_rules i none s row) ≡ answer (work_at_of s row i) none
    unfolding work_at_of
    by-instant none = cases (instant_fits i) (λ h. simp h (by_order none)) (λ h. simp h)

    at-refused : (r : Refusal) → work_at_of s row i ≡ Err r → eqb r.number 0 ≡ false
    unfolding work_at_of work_day_of
    at-refused r e =
        cases (instant_fits i) (λ h. day_refused r (reading_of s) refl (simp h at e))
        (λ h. let same : refusal 10 0 ≡ r = cc in rw (← same) refl)

    -- the call is refused as the day is, or by 11 if no prayer is in force
    Refuses : Result PrayerTimes Refusal → Refusal → Type 0
    Refuses w r = (answer w (none_rule (in_force_of w i)) ≡ r) × (eqb r.number 0 ≡ false)

    refused-first : (r : Refusal) → Refuses (work_at_of s row i) r → FirstBroken r (instant_rules i (none_rule (prayer_at_of s row i)) s row)
    unfolding Refuses prayer_at_of
    refused-first r f = given _ r (by-instant (none_rule (in_force_of (work_at_of s row i) i)) ∙ f.0) f.1

    prayer-first : (r : Refusal) (w : Result PrayerTimes Refusal) → work_at_of s row i ≡ w → in_force_of w i ≡ Err r
        → FirstBroken r (instant_rules i no_refusal s row)
    unfolding in_force_of
    prayer-first r (Ok t) e p = let z : ◌≡◌ {A = ℕ} 0 1 = cc in absurd (omega arith)
    prayer-first r (Err q) e p =
        let same : q ≡ r = cc in
        given _ r (by-instant no_refusal ∙ ap (λ (w : Result PrayerTimes Refusal). answer w no_refusal) e ∙ same) (at-refused r (rw (← same) e))

    next-refuses : (r : Refusal) (w : Result PrayerTimes Refusal) → work_at_of s row i ≡ w → next_prayer_of w i ≡ Err r → Refuses w r
    unfolding Refuses next_prayer_of next_prayer_in following_current_of in_force_of
    next-refuses r (Err q) e p = let same : q ≡ r = cc in (same, at-refused r (rw (← same) e))
    next-refuses r (Ok t) e p = by-current (current_time_of t i) p
      where
        by-current : (c : Option Prayer) → next_prayer_in (following_current_of c) ≡ Err r
            → (broken (none_rule (Ok c) ∷ []) ≡ r) × (eqb r.number 0 ≡ false)
        by-current (Some prayer) p = let z : ◌≡◌ {A = ℕ} 0 1 = cc in absurd (omega arith)
        by-current None p = let same : refusal 11 0 ≡ r = cc in (same, rw (← same) refl)

    remaining-refuses : (r : Refusal) (w : Result PrayerTimes Refusal) → work_at_of s row i ≡ w → time_until_of w i ≡ Err r → Refuses w r
    unfolding Refuses time_until_of time_until_in until_of following_current_of in_force_of
    remaining-refuses r (Err q) e p = let same : q ≡ r = cc in (same, at-refused r (rw (← same) e))
    remaining-refuses r (Ok t) e p = by-current (current_time_of t i) p
      where
        by-current : (c : Option Prayer) → time_until_in (until_of t i (following_current_of c)) ≡ Err r
            → (broken (none_rule (Ok c) ∷ []) ≡ r) × (eqb r.number 0 ≡ false)
        by-current (Some prayer) p = let z : ◌≡◌ {A = ℕ} 0 1 = cc in absurd (omega arith)
        by-current None p = let same : refusal 11 0 ≡ r = cc in (same, rw (← same) refl)

pub first_rule_refuses : (s : List ℕ) (row : ℕ) → FirstRuleRefuses s row
unfolding work_day_of prayer_at_of next_at_of remaining_at_of
first_rule_refuses s row =
    record {
      line = λ buffer n. let e = line_first s row buffer in rw e (first _ (rw e at n));
      day = λ r e.
          given _ r (by_order s row no_refusal ∙ ap (λ (w : Result PrayerTimes Refusal). answer w no_refusal) e) (day_refused s row r (reading_of s) refl e);
      prayer = λ i r e. prayer-first s row i r (work_at_of s row i) refl e;
      next = λ i r e. refused-first s row i r (next-refuses s row i r (work_at_of s row i) refl e);
      remaining = λ i r e. refused-first s row i r (remaining-refuses s row i r (work_at_of s row i) refl e);
    }
