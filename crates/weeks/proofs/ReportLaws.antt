-- Windows and lines depend only on the rows that they look at; and how long lines can be. Assumes nothing.
use Rattle.std.specs.Prelude.{None, Option, Some}
use Rattle.weeks.specs.declared.window.Extremes.{Extremes}
use Rattle.prelude.proofs.Logic.{◌≡◌, refl, sym, ap, ◌∙◌, List, [], ◌∷◌, ℕ, zero, suc, ◌+◌, ◌-◌, ◌*◌, ◌/◌, ◌≤◌, ◌<◌, add-one, arith, ltb}
use Rattle.prelude.proofs.Logic.{length, length-append, lt-ltb, arms, ℤ, true, false, lt_z, take, get_or-take}
use Rattle.text.proofs.{SignedLaws.signed_length, TextLaws.put_next}
use Rattle.text.specs.Text.{digit_of, digits_of, decimal_of, put_of, front_of}
use Rattle.weeks.specs.Lines.{pair_text, line_of, lines_of, report_of}
use Rattle.weeks.specs.{Meaning.Answers, Report.longest_week}
use Rattle.weeks.specs.Kept.{minute_in_list}
use Rattle.weeks.specs.Windows.{begin_of, earlier_in, extremes, later_in, seen_of, look_of, window_of}
use Rattle.weeks.proofs.MeaningLaws.{window_answers}

-- ---- a window while it is looked through
pub record Looking (f : ℕ → Option ℤ) (first : ℕ) (w : Option Extremes) (row : ℕ) : Type 0 where
  pub left : ℕ
  pub to : row + left ≡ first + 7
  pub is : look_of f w row left ≡ window_of f first

module _ (f : ℕ → Option ℤ) (first : ℕ) where
  pub look-first : Looking f first (begin_of first (f first)) (first + 1)
  unfolding window_of
  look-first = record { left = 6; to = omega arith; is = refl }

  pub look-next : (w : Option Extremes) (row : ℕ) → Looking f first w row → row < first + 7 → Looking f first (seen_of w row (f row)) (row + 1)
  look-next w row l h = by_left l.left l.to l.is
    where
      by_left : (k : ℕ) → row + k ≡ first + 7 → look_of f w row k ≡ window_of f first → Looking f first (seen_of w row (f row)) (row + 1)
      by_left zero e i = absurd (omega arith)
      by_left (suc k) e i = record { left = k; to = omega arith; is = i }

  pub look-last : (w : Option Extremes) (row : ℕ) → Looking f first w row → first + 7 ≤ row → w ≡ window_of f first
  look-last w row l h =
      let to = l.to in
      let none : 0 ≡ l.left = omega arith in
      ap (look_of f w row) none ∙ l.is

  -- a refused row refuses the window
  look_none : (row k : ℕ) → look_of f None row k ≡ None
  look_none row zero = refl
  look_none row (suc k) = look_none (row + 1) k

  pub first-refused : f first ≡ None → None ≡ window_of f first
  unfolding window_of
  first-refused e = sym (rw e (look_none (first + 1) 6))

  pub first-there : (m : ℤ) → f first ≡ Some m → Looking f first (Some (extremes m first m first)) (first + 1)
  first-there m e = rw e at look-first

  pub row-refused : (w : Option Extremes) (row : ℕ) → Looking f first w row → row < first + 7 → seen_of w row (f row) ≡ None
      → None ≡ window_of f first
  row-refused w row l h e = let n = rw e at (look-next w row l h) in sym (look_none (row + 1) n.left) ∙ n.is

-- ---- rows that are the same give the same report
module _ (f g : ℕ → Option ℤ) (rows : ℕ) (same : (r : ℕ) → r < rows → f r ≡ g r) where
  look-same : (w : Option Extremes) (row k : ℕ) → row + k ≤ rows → look_of f w row k ≡ look_of g w row k
  look-same w row zero h = refl
  look-same w row (suc k) h =
      ap (λ (m : Option ℤ). look_of f (seen_of w row m) (row + 1) k) (same row (omega arith))
      ∙ look-same (seen_of w row (g row)) (row + 1) k (omega arith)

  window_same : (first : ℕ) → first + 7 ≤ rows → window_of f first ≡ window_of g first
  unfolding window_of
  window_same first h =
      ap (λ (m : Option ℤ). look_of f (begin_of first m) (first + 1) 6) (same first (omega arith))
      ∙ look-same (begin_of first (g first)) (first + 1) 6 (omega arith)

  lines_same : (n : ℕ) → n ≤ rows - 6 → lines_of f n ≡ lines_of g n
  unfolding lines_of
  lines_same zero h = refl
  lines_same (suc n) h = rw (lines_same n (omega arith), window_same n (omega arith))

  pub report-same : report_of f rows ≡ report_of g rows
  report-same = lines_same (rows - 6) (omega arith)

-- ---- lengths
digits_most : (k n most : ℕ) → length (digits_of k (n / 10)) ≤ most → 1 ≤ most → length (digits_of (suc k) n) ≤ most + 1
unfolding digits_of
digits_most k n most h one =
    arms (λ (t : List ℕ). length t ≤ most + 1) (ltb n 10) (λ e. omega arith)
    (λ e. let a = length-append (digits_of k (n / 10)) (digit_of n ∷ []) in omega arith)

-- a row's number
row_digits : (n : ℕ) → n < 1000 → length (decimal_of n) ≤ 3
unfolding digits_of
row_digits n h =
    let last : length (digits_of 18 (n / 10 / 10)) ≤ 1 = rw (lt-ltb (n / 10 / 10) 10 (omega arith)) (omega arith) in
    digits_most 19 n 2 (digits_most 18 (n / 10) 1 last (omega arith)) (omega arith)

pair_length : (z : ℤ) (row : ℕ) → row < 1000 → length (pair_text z row) ≤ 26
unfolding pair_text
pair_length z row h = let s = signed_length z in let d = row_digits row h in simp length-append (omega arith)

line_length_lem : (f : ℕ → Option ℤ) (first next : ℕ) (w : Option Extremes) → next ≤ 1000 → first < next → Answers f first next w
    → length (line_of first w) ≤ 56
unfolding line_of
line_length_lem f first next None h l a = let d = row_digits first (omega arith) in simp length-append (omega arith)
line_length_lem f first next (Some x) h l a =
    let d = row_digits first (omega arith) in
    let e = pair_length x.earliest x.earliest_row (omega (arith, a.early.to)) in
    let g = pair_length x.latest x.latest_row (omega (arith, a.late.to)) in
    simp length-append (omega arith)

pub lines_length : (f : ℕ → Option ℤ) (n : ℕ) → n ≤ 900 → length (lines_of f n) ≤ 56 * n
unfolding lines_of
lines_length f zero h = omega arith
lines_length f (suc n) h =
    let i = lines_length f n (omega arith) in
    let w = line_length_lem f n (n + 7) (window_of f n) (omega arith) (omega arith) (window_answers f n) in
    let a = length-append (lines_of f n) (line_of n (window_of f n)) in
    omega arith

-- ---- the lines of the windows before `first` are at the buffer's front
pub record Lined (f : ℕ → Option ℤ) (rows : ℕ) (buffer now : List ℕ) (first end : ℕ) : Type 0 where
  pub within : first ≤ rows - 6
  pub text : now ≡ front_of (lines_of f first) buffer
  pub place : end ≡ length (lines_of f first)
  pub same : length now ≡ length buffer

pub no_lines : (f : ℕ → Option ℤ) (rows : ℕ) (buffer : List ℕ) → Lined f rows buffer buffer 0 0
unfolding lines_of
no_lines f rows buffer = record { within = omega arith; text = refl; place = refl; same = refl }

module _ (f : ℕ → Option ℤ) (rows : ℕ) (most : rows ≤ 400) (buffer : List ℕ) (room : longest_week ≤ length buffer)
    (now : List ℕ) (first end : ℕ) (l : Lined f rows buffer now first end) (more : first + 6 < rows) where
  pub line-room : end + length (line_of first (window_of f first)) ≤ length now
  line-room =
      let i = lines_length f first (omega (arith, l.within)) in
      let w = line_length_lem f first (first + 7) (window_of f first) (omega arith) (omega arith) (window_answers f first) in
      omega (arith, l.place, l.same)

  pub lined-next : (w : Option Extremes) → w ≡ window_of f first → (after : List ℕ) (n : ℕ) → length after ≡ length now
      → (n ≡ end + length (line_of first w)) × (after ≡ put_of now end (line_of first w)) → Lined f rows buffer after (first + 1) n
  unfolding lines_of
  lined-next w is after n k put =
      let p = rw is at put in
      let a = length-append (lines_of f first) (line_of first (window_of f first)) in
      let at = l.place in
      let fits = line-room in
      let same = l.same in
      record {
        within = omega arith;
        text = rw (add-one first)
            (put_next buffer (lines_of f first) (line_of first (window_of f first)) now after end l.text at p.1 (omega arith));
        place = rw (add-one first) (omega (arith, p.0));
        same = k ∙ same;
      }

-- ---- one row more, by the tests of the code
module _ (x : Extremes) (row : ℕ) (m : ℤ) where
  pub earlier_yes : lt_z m x.earliest ≡ true → extremes m row x.latest x.latest_row ≡ earlier_in x row m
  unfolding earlier_in
  earlier_yes h = simp h

  pub earlier_no : lt_z m x.earliest ≡ false → x ≡ earlier_in x row m
  unfolding earlier_in
  earlier_no h = simp h

  pub later_yes : lt_z x.latest m ≡ true → extremes x.earliest x.earliest_row m row ≡ later_in x row m
  unfolding later_in
  later_yes h = simp h

  pub later_no : lt_z x.latest m ≡ false → x ≡ later_in x row m
  unfolding later_in
  later_no h = simp h

-- ---- the minutes of the first rows
pub minute_take : (kept : List (Option ℤ)) (n k : ℕ) → k < n → minute_in_list (take n kept) k ≡ minute_in_list kept k
minute_take kept n k h = get_or-take n kept k None h
