-- An order that was read by document 01 alone is still read as it was. Assumes nothing.
use Rattle.std.specs.Prelude.{Err, Ok, Result}
use Rattle.schedule.specs.declared.prayer_times.PrayerTimes.{PrayerTimes}
use Rattle.prelude.proofs.Logic.{◌≡◌, refl, sym, ap, ◌∙◌, Bool, true, false, not, cond, ◌&&◌, ◌||◌, List, [], ◌∷◌, ℕ, zero, suc}
use Rattle.prelude.proofs.Logic.{◌-◌, ◌≤◌, ◌<◌, arith, leb, ltb, eqb, lit≤, length, get_or, set, replicate, inl, inr, ◌⊎◌, ltb-true, lt-ltb}
use Rattle.prelude.proofs.Logic.{leb-true, leb-false, eq-eqb, eqb-true, eqb-false, ne_eqb, le-leb, lt-leb, not-false, cases, both, ⊎_elim}
use mathlib.Core.Bool.{and-false, and-true, or-false}
use Rattle.calendar.specs.Answers.{row_date_of}
use Rattle.fields.specs.Fields.{length_at, next_field_at, fault_in, fault_of, walk_of, check_of}
use Rattle.fields.specs.{Numbers.byte_of, Tags.tags, Tags.length_fits}
use Rattle.fields.specs.Values.{has_of, value_of, values_of}
use Rattle.fields.specs.Lookup.{first_from, offset_of}
use Rattle.fields.proofs.LookupLaws.{first, has-good, whole_length, value-missing}
use Rattle.lines.specs.Lines.{columns_of, line_text}
use Rattle.models.proofs.Models.{midnight_of, southern_of}
use Rattle.calendar.specs.declared.dates.Date.{Date}
use Rattle.order.specs.Given.{date_in, rows_in, coordinate_in, byte_or, rules_in, clock_in, no_ramadan, ramadan_in}
use Rattle.order.specs.Ranges.{between, rows_fit, ramadan_rows, look_up, fits_of, in_range_of}
use Rattle.order.specs.Reading.{first_failing, required, is_given_of, missing_of, both_forms_of, tags_from, out_of_range_of, order_of, wrong_start_of}
use Rattle.order.specs.{Reading.first_of, Reading.reading_of, declared.reading.Order.Order}
use Rattle.order.proofs.ReadingLaws.{passed_on, town_value}
use Rattle.refusals.specs.{Refusals.no_refusal, declared.Refusal.Refusal}
use Rattle.reports.specs.Reports.{report_in}
use Rattle.sheets.specs.Rows.{header_text, head_text, lines_text, accepted_text, sheet_text}
use Rattle.schedule.specs.{Times.worked_at}
use Rattle.days.specs.Calls.{work_row_of}
use Rattle.order_laws.specs.FormerRows.{former_length_fits, former_fault_of, former_walk_of, former_check_of, former_rows_fit, former_in_range}
use Rattle.order_laws.specs.FormerRows.{former_setting, former_order_of, former_reading_of, former_line, former_lines, former_text, new_at}
use Rattle.order_laws.specs.FormerRows.{OrdersAreAsBefore}

-- ---- the form of the fields: the same fault, or a field that was unknown and is now read
abbrev New : List ℕ → Refusal → Type 0
New s r = (r.number ≡ 2) × (new_at s r.place ≡ true)

length_three : (n : ℕ) → (eqb n 1 ≡ length_fits 3 n) ⊎ ((eqb n 1 ≡ false) × (eqb n 2 ≡ true))
unfolding length_fits
length_three zero = inl refl
length_three (suc zero) = inl refl
length_three (suc (suc zero)) = inr (refl, refl)
length_three (suc (suc (suc n))) =
    let k = suc (suc (suc n)) in inl (rw (ne_eqb k 1 (λ e. omega arith), le-leb 1 k (omega arith), lt-leb k 2 (omega arith)))

fits_same : (tag n : ℕ)
    → (former_length_fits tag n ≡ length_fits tag n) ⊎ ((former_length_fits tag n ≡ false) × (eqb tag 3 ≡ true) × (eqb n 2 ≡ true))
unfolding former_length_fits
fits_same tag n =
    cases (eqb tag 3)
    (λ t. let is = eqb-true tag 3 t in
    rw is (⊎_elim (λ (f : eqb n 1 ≡ length_fits 3 n). inl f) (λ (f : (eqb n 1 ≡ false) × (eqb n 2 ≡ true)). inr (f.0, refl, f.1))
    (length_three n)))
    (λ t. inl (simp t))

-- by a field's tag and length, whether its tag was seen before, and how many bytes are left
module _ (tag n left : ℕ) (again : Bool) where
  abbrev formerIn : ℕ
  formerIn =
      cond (ltb left 3) 1
      (cond (not (between 1 14 tag)) 2 (cond again 3 (cond (not (former_length_fits tag n)) 2 (cond (ltb (left - 3) n) 1 0))))

  abbrev Alike : Type 0
  Alike = (formerIn ≡ fault_in tag n again left) ⊎ ((formerIn ≡ 2) × ((between 15 20 tag || (eqb tag 3 && eqb n 2)) ≡ true))

  fault-alike : Alike
  unfolding fault_in
  fault-alike =
      cases (ltb left 3) (λ h. inl (simp h))
      (λ h. cases (between 1 14 tag)
      (λ k. let b = both (leb 1 tag) (leb tag 14) k in
      let low = b.0 in
      let high : leb tag 20 ≡ true = le-leb tag 20 (let l = leb-true tag 14 b.1 in omega arith) in
      cases again (λ a. inl (simp (h, low, b.1, high, a)))
      (λ a. ⊎_elim (λ (f : former_length_fits tag n ≡ length_fits tag n). inl (simp (h, low, b.1, high, a, f)))
      (λ (f : (former_length_fits tag n ≡ false) × (eqb tag 3 ≡ true) × (eqb n 2 ≡ true)).
      let three : tag ≡ 3 = eqb-true tag 3 f.1 in
      inr (simp (h, low, b.1, a, f.0), simp (lt-leb 15 tag (omega arith), f.1, f.2)))
      (fits_same tag n)))
      (λ k. cases (between 15 20 tag) (λ b. inr (simp (h, k), simp b)) (λ b. inl (simp (h, k, unknown k b)))))
    where
      unknown : between 1 14 tag ≡ false → between 15 20 tag ≡ false → between 1 20 tag ≡ false
      unknown k b =
          cases (leb 1 tag)
          (λ low. let over = leb-false tag 14 (simp low at k) in
          let most : leb tag 20 ≡ false = simp (le-leb 15 tag (omega arith)) at b in
          simp (low, most))
          (λ low. simp low)

-- a line with no imsak
line_same : (date : Date) (w : Result PrayerTimes Refusal) → line_text no_ramadan date w ≡ former_line date w
unfolding line_text columns_of former_line
line_same date (Ok t) = refl
line_same date (Err r) = refl

module _ (s : List ℕ) where
  fault-same : (seen : List Bool) (at : ℕ)
      → (former_fault_of s seen at ≡ fault_of s seen at) ⊎ ((former_fault_of s seen at ≡ 2) × (new_at s at ≡ true))
  unfolding former_fault_of fault_of new_at
  fault-same seen at = fault-alike (byte_of s at) (length_at s at) (length s - at) (get_or seen (byte_of s at) false)

  walk_same : (k : ℕ) (seen : List Bool) (at : ℕ) → (former_walk_of k s seen at ≡ walk_of k s seen at) ⊎ New s (former_walk_of k s seen at)
  unfolding former_walk_of walk_of
  walk_same zero seen at = inl refl
  walk_same (suc k) seen at =
      let next = next_field_at s at in
      let seen' = set seen (byte_of s at) true in
      cases (ltb at (length s))
      (λ h. ⊎_elim
      (λ (f : former_fault_of s seen at ≡ fault_of s seen at). cases (eqb (fault_of s seen at) 0)
      (λ z. ⊎_elim (λ (w : former_walk_of k s seen' next ≡ walk_of k s seen' next). inl (simp (h, f, z, w)))
      (λ (w : New s (former_walk_of k s seen' next)). inr (simp (h, f, z) w)) (walk_same k seen' next))
      (λ z. inl (simp (h, f, z))))
      (λ (f : (former_fault_of s seen at ≡ 2) × (new_at s at ≡ true)). inr (simp (h, f.0) (refl, f.1)))
      (fault-same seen at))
      (λ h. inl (simp h))

  abbrev none : List Bool
  none = replicate (length tags) false

  check-same : (former_check_of s ≡ check_of s) ⊎ New s (former_check_of s)
  unfolding former_check_of check_of
  check-same =
      cases (ltb 1024 (length s)) (λ h. inl (simp h))
      (λ h. ⊎_elim (λ (w : former_walk_of (length s) s none 0 ≡ walk_of (length s) s none 0). inl (simp (h, w)))
      (λ (w : New s (former_walk_of (length s) s none 0)). inr (simp h w)) (walk_same (length s) none 0))

  -- ---- a walk that refused nothing met no new field
  passed : (b : Bool) (x y : ℕ) → 1 ≤ x → cond b x y ≡ 0 → (b ≡ false) × (y ≡ 0)
  passed true x y l e = absurd (omega arith)
  passed false x y l e = (refl, e)

  abbrev Former : ℕ → Type 0
  Former at = (byte_of s at ≤ 14) × (former_length_fits (byte_of s at) (length_at s at) ≡ true)

  former-field : (seen : List Bool) (at : ℕ) → former_fault_of s seen at ≡ 0 → Former at
  unfolding former_fault_of
  former-field seen at e =
      let tag = byte_of s at in
      let header = passed (ltb (length s - at) 3) 1 _ (lit≤ tt) e in
      let known = passed (not (between 1 14 tag)) 2 _ (lit≤ tt) header.1 in
      let new = passed (get_or seen tag false) 3 _ (lit≤ tt) known.1 in
      let fits = passed (not (former_length_fits tag (length_at s at))) 2 _ (lit≤ tt) new.1 in
      (leb-true tag 14 (both (leb 1 tag) (leb tag 14) (not-false _ known.0)).1, not-false _ fits.0)

  find-former : (k : ℕ) (seen : List Bool) (tag at : ℕ) → (former_walk_of k s seen at).number ≡ 0 → first_from k s tag at < length s
      → Former (first_from k s tag at)
  unfolding first_from former_walk_of
  find-former zero seen tag at e h = absurd (omega arith)
  find-former (suc k) seen tag at e h =
      cases (ltb at (length s))
      (λ a. cases (eqb (former_fault_of s seen at) 0)
      (λ z. cases (eqb (byte_of s at) tag) (λ b. simp (a, b) (former-field seen at (eqb-true (former_fault_of s seen at) 0 z)))
      (λ b. simp (a, b) (find-former k (set seen (byte_of s at) true) tag (next_field_at s at) (simp (a, z) at e) (simp (a, b) at h))))
      (λ z. absurd (eqb-false (former_fault_of s seen at) 0 z (simp (a, z) at e))))
      (λ a. let z = simp a at h in absurd (omega arith))

  module _ (e : (former_check_of s).number ≡ 0) where
    walked : (former_walk_of (length s) s none 0).number ≡ 0
    unfolding former_check_of
    walked = cases (ltb 1024 (length s)) (λ h. let z = simp h at e in absurd (omega arith)) (λ h. simp h at e)

    check_none : (check_of s).number ≡ 0
    check_none =
        ⊎_elim (λ (f : former_check_of s ≡ check_of s). ap (λ (r : Refusal). r.number) (sym f) ∙ e)
        (λ (f : New s (former_check_of s)). absurd (let n = f.0 in omega arith)) check-same

    found : (tag : ℕ) → offset_of s tag < length s → Former (offset_of s tag)
    unfolding offset_of
    found tag l = find-former (length s) none tag 0 walked l

    has-former : (tag : ℕ) → has_of s tag ≡ true → (tag ≤ 14) × (former_length_fits tag (length_at s (offset_of s tag)) ≡ true)
    has-former tag h =
        let g = found tag (ltb-true (offset_of s tag) (length s) (sym (first s tag check_none).has ∙ h)) in
        let named = (has-good s tag check_none h).1 in
        (rw named at g.0, rw named at g.1)

    has-none : (tag : ℕ) → leb 15 tag ≡ true → has_of s tag ≡ false
    has-none tag l = cases (has_of s tag) (λ h. absurd (omega (arith, (has-former tag h).0, leb-true 15 tag l))) (λ h. h)

    one_byte : has_of s 3 ≡ true → length (value_of s 3) ≡ 1
    unfolding former_length_fits
    one_byte h =
        ap (length {A = ℕ}) (first s 3 check_none).value
        ∙ whole_length s (offset_of s 3) (has-good s 3 check_none h).0.whole
        ∙ eqb-true (length_at s (offset_of s 3)) 1 (has-former 3 h).1

    not-two : eqb (length (value_of s 3)) 2 ≡ false
    not-two = cases (has_of s 3) (λ h. rw (one_byte h) refl) (λ h. rw (value-missing s 3 check_none h) refl)

    -- ---- the other checks
    missing-same : missing_of (has_of s) ≡ first_failing 4 (has_of s) required
    unfolding missing_of first_failing is_given_of look_up
    missing-same = simp (has-none, or-false)

    both-none : both_forms_of (has_of s) ≡ no_refusal
    unfolding both_forms_of
    both-none = simp (has-none, and-false)

    rows_same : rows_in (value_of s 3) ≡ byte_of (value_of s 3) 0
    unfolding rows_in
    rows_same = rw not-two

    three-same : fits_of (values_of s) 3 ≡ former_rows_fit (date_in (value_of s 2)) (value_of s 3)
    unfolding fits_of look_up rows_fit ramadan_rows former_rows_fit
    three-same = simp (has-none, not-two, rows_same, and-true)

    range_same : (tag : ℕ) → in_range_of (values_of s) tag ≡ former_in_range (values_of s) tag
    unfolding in_range_of former_in_range
    range_same tag = cases (eqb tag 3) (λ t. let is : tag ≡ 3 = eqb-true tag 3 t in rw (is, three-same)) (λ t. simp t)

    in_range : (tag : ℕ) → leb 15 tag ≡ true → in_range_of (values_of s) tag ≡ true
    unfolding in_range_of
    in_range tag l = simp (has-none tag l)

    ranges-same : out_of_range_of (values_of s) ≡ first_failing 5 (former_in_range (values_of s)) (tags_from 14 1)
    unfolding out_of_range_of first_failing tags_from
    ranges-same = simp (in_range, range_same)

    -- ---- the record
    order_same : order_of (values_of s) ≡ former_order_of (values_of s)
    unfolding order_of former_order_of coordinate_in rules_in byte_or midnight_of southern_of clock_in ramadan_in
    order_same = simp (rows_same, has-none)

    start_none : wrong_start_of (order_of (values_of s)).ramadan (order_of (values_of s)).date ≡ no_refusal
    unfolding wrong_start_of former_order_of
    start_none = rw order_same

    passed-same : reading_of s ≡ former_reading_of s
    unfolding reading_of former_reading_of first_of
    passed-same =
        rw (
          missing-same,
          both-none,
          ranges-same,
          start_none,
          order_same,
          eq-eqb (check_of s).number 0 check_none,
          eq-eqb (former_check_of s).number 0 e,
        )

  -- ---- what was read, whether it was accepted or not
  refused-same : eqb (former_check_of s).number 0 ≡ false → former_check_of s ≡ check_of s → reading_of s ≡ former_reading_of s
  unfolding reading_of former_reading_of first_of
  refused-same h f = rw (← f, h)

  new-refused : eqb (former_check_of s).number 0 ≡ false → former_reading_of s ≡ Err (former_check_of s)
  unfolding former_reading_of first_of
  new-refused h = simp h

  -- ---- the sheet
  abbrev former : Order
  former = former_order_of (values_of s)

  lines_same : (n : ℕ) → n ≤ former.rows → lines_text former n ≡ former_lines former n
  unfolding lines_text former_lines work_row_of former_order_of
  lines_same zero h = refl
  lines_same (suc n) h =
      let date = row_date_of former.date n in
      rw (lines_same n (omega arith), lt-ltb n former.rows (omega arith), line_same date (worked_at date (former_setting former)))

  text_same : (town : List ℕ) → accepted_text town former ≡ former_text town former
  unfolding accepted_text former_text head_text header_text former_order_of
  text_same town = rw (lines_same former.rows (omega arith))

  accepted-order : (o : Order) → former_reading_of s ≡ Ok o → ((former_check_of s).number ≡ 0) × (former ≡ o)
  unfolding former_reading_of first_of
  accepted-order o e =
      let v = values_of s in
      let missing = first_failing 4 (has_of s) required in
      let ranges = first_failing 5 (former_in_range v) (tags_from 14 1) in
      let a = passed_on (former_check_of s) (missing ∷ ranges ∷ []) former o e in
      let b = passed_on missing (ranges ∷ []) former o a.1 in
      let c = passed_on ranges [] former o b.1 in
      let same : Ok former ≡ Ok o = c.1 in
      (a.0, cc)

  sheet-same : (o : Order) → former ≡ o → reading_of s ≡ Ok o → sheet_text s ≡ former_text (value_of s 1) o
  unfolding report_in
  sheet-same o f e = rw (town_value s o e) (simp e (rw (← f) (text_same (value_of s 1))))

pub orders_are_as_before : OrdersAreAsBefore
orders_are_as_before s =
    record {
      accepted = λ o e.
          let a = accepted-order s o e in
          let r = passed-same s a.0 ∙ e in
          (r, sheet-same s o a.1 r);
      refused = λ r e.
          cases (eqb (former_check_of s).number 0) (λ h. inl (passed-same s (eqb-true (former_check_of s).number 0 h) ∙ e))
          (λ h. ⊎_elim (λ (f : former_check_of s ≡ check_of s). inl (refused-same s h f ∙ e))
          (λ (f : New s (former_check_of s)). let x = new-refused s h in let y : former_check_of s ≡ r = cc in inr (rw y at f)) (check-same s));
    }
