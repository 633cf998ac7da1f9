-- The times of a row, one after another. Assumes nothing.
use Rattle.prelude.proofs.Logic.{◌≡◌, refl, sym, ap, ◌∙◌, List, [], ◌∷◌, ◌++◌, append_assoc, append-nil, ℕ, ◌+◌, ◌*◌, ◌<◌, ◌≤◌, add-one}
use Rattle.prelude.proofs.Logic.{arith, ℤ, length, get_or, take, drop, length-append, drop-drop, le-leb, lt-leb}
use Rattle.prelude.proofs.Logic.{drop_of_length-le, take-suc, take-length, length-take-le}
use Rattle.calendar.specs.declared.dates.Date.{Date}
use Rattle.text.specs.Text.{ascii, put_of, front_of}
use Rattle.text.proofs.TextLaws.{put_next}
use Rattle.lines.specs.Lines.{date_text, time_text, times_text, row_bytes}
use Rattle.lines.specs.Since.{epoch}
use Rattle.lines.proofs.LinesLaws.{date_length, time_length, times_length}

times_append : (date : Date) (xs ys : List ℤ) → times_text date (xs ++ ys) ≡ times_text date xs ++ times_text date ys
unfolding times_text
times_append date [] ys = refl
times_append date (x ∷ xs) ys = rw (times_append date xs ys) (sym (append_assoc (time_text date x) (times_text date xs) (times_text date ys)))

-- text that fills a part of a buffer is put into the whole
pub filled_put : (buffer text : List ℕ) (at k : ℕ) → k ≡ length text → at + k ≤ length buffer
    → take at buffer ++ (text ++ drop k (drop at buffer)) ≡ put_of buffer at text
unfolding put_of
filled_put buffer text at k e room =
    ap (λ (rest : List ℕ). take at buffer ++ (text ++ rest)) (drop-drop k at buffer ∙ ap (λ (i : ℕ). drop (at + i) buffer) e)
    ∙ sym (append_assoc (take at buffer) text (drop (at + length text) buffer))
    ∙ sym (rw (le-leb (at + length text) (length buffer) (omega arith)))

pub no_room : (buffer text : List ℕ) (at : ℕ) → length buffer < at + length text → buffer ≡ put_of buffer at text
unfolding put_of
no_room buffer text at h = rw (lt-leb (at + length text) (length buffer) h)

-- the text of the date and of i times
abbrev pub part_text : List ℕ → List ℤ → ℕ → List ℕ
part_text date times i = date ++ times_text epoch (take i times)

-- the line of no times
pub date_put : (date : Date) (times : List ℤ) (line after text : List ℕ) → length line ≡ row_bytes (length times) → text ≡ date_text date
    → after ≡ put_of line 0 text → (take 10 after ≡ date_text date) × (after ≡ front_of (part_text (take 10 after) times 0) line)
unfolding date_text times_text
date_put date times line after text l e p =
    let d = date_length date in
    let put = put_next line [] (date_text date) line after 0 refl refl (p ∙ ap (put_of line 0) e) (omega arith) in
    let first : take 10 after ≡ date_text date = ap (take 10) put in
    (first, put ∙ ap (λ (t : List ℕ). front_of (t ++ []) line) (sym first))

module _ (date : List ℕ) (ten : length date ≡ 10) (times : List ℤ) where
  part_length : (i : ℕ) → i ≤ length times → length (part_text date times i) ≡ 10 + 12 * i
  part_length i h =
      let c = times_length epoch (take i times) in
      let t = length-take-le i times h in
      let a = length-append date (times_text epoch (take i times)) in
      omega (arith, ten)

  part-next : (i : ℕ) (z : ℤ) → i < length times → part_text date times i ++ time_text epoch (get_or times i z) ≡ part_text date times (i + 1)
  unfolding times_text
  part-next i z h =
      let c : times_text epoch (get_or times i z ∷ []) ≡ time_text epoch (get_or times i z) = append-nil (time_text epoch (get_or times i z)) in
      let e : times_text epoch (take (i + 1) times) ≡ times_text epoch (take i times) ++ time_text epoch (get_or times i z) =
      rw (add-one i, take-suc times i z h)
      (times_append epoch (take i times) (get_or times i z ∷ []) ∙ ap (λ (l : List ℕ). times_text epoch (take i times) ++ l) c) in
      append_assoc date (times_text epoch (take i times)) (time_text epoch (get_or times i z)) ∙ ap (λ (l : List ℕ). date ++ l) (sym e)

  -- the line of i times becomes that of i + 1
  pub time_put : (i : ℕ) (z : ℤ) (line before after text : List ℕ) → i < length times → length line ≡ row_bytes (length times)
      → before ≡ front_of (part_text date times i) line → text ≡ time_text epoch (get_or times i z) → after ≡ put_of before (10 + 12 * i) text
      → after ≡ front_of (part_text date times (i + 1)) line
  time_put i z line before after text h l b e p =
      let d = part_length i (omega arith) in
      let c = time_length epoch (get_or times i z) in
      put_next line (part_text date times i) (time_text epoch (get_or times i z)) before after (10 + 12 * i) b (sym d)
      (p ∙ ap (put_of before (10 + 12 * i)) e) (omega arith)
      ∙ ap (λ (t : List ℕ). front_of t line) (part-next i z (omega arith))

  -- the newline after all times is the line's last byte
  pub newline-put : (i : ℕ) (line before after : List ℕ) → i ≡ length times → length line ≡ row_bytes (length times)
      → before ≡ front_of (part_text date times i) line → after ≡ put_of before (10 + 12 * i) (ascii "\n")
      → after ≡ date ++ times_text epoch times ++ ascii "\n"
  newline-put i line before after h l b p =
      let t : take i times ≡ times = ap (λ (k : ℕ). take k times) h ∙ take-length times in
      let d = part_length i (omega arith) in
      let text = date ++ times_text epoch times ++ ascii "\n" in
      let c = times_length epoch times in
      let m = length-append date (times_text epoch times) in
      let n = length-append (date ++ times_text epoch times) (ascii "\n") in
      put_next line (part_text date times i) (ascii "\n") before after (10 + 12 * i) b (sym d) p (omega arith)
      ∙ ap (λ (ts : List ℤ). front_of (date ++ times_text epoch ts ++ ascii "\n") line) t
      ∙ ap (λ (rest : List ℕ). text ++ rest) (drop_of_length-le line {i = length text} (omega (arith, ten, c, m, n, l))) ∙ append-nil text
