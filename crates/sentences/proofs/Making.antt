-- The line that is made of the words, a blank and the place's digits, and what the two calls return. Assumes nothing.
use Rattle.prelude.proofs.Logic.{◌≡◌, refl, sym, ap, ◌∙◌, true, false, cond, ◌&&◌, List, [], ◌∷◌, ◌++◌, ℕ, ◌+◌, ◌≤◌, ◌<◌, arith, ltb}
use Rattle.prelude.proofs.Logic.{length, take, length-append, le-ltb, le-leb, lt-leb, cases}
use Rattle.prelude.proofs.Logic.{eqb, eqb-true, eqb-false, lt-ltb, ltb-false}
use Rattle.std.proofs.Common.{Bool, Option, Some, None, nat_eq}
use Rattle.std.specs.Bool.{then_some}
use Rattle.std.specs.Cmp.Lexicographic.{pointwise}
use Rattle.text.specs.Text.{ascii, decimal_of, put_of, front_of}
use Rattle.text.proofs.TextLaws.{put_next, cut_front}
use Rattle.refusals.specs.declared.Refusal.{Refusal}
use Rattle.refusals.specs.Refusals.{out_of_range, buffer_short, refusal}
use Rattle.sentences.specs.Table.{text_of, name_of, known}
use Rattle.sentences.specs.Guess.{none, number_in, place_in, guessed_of, place_from, meaning_from}
use Rattle.sentences.specs.Sentences.{ends_in_colon, words_of, sentence_of, written, refusing, sentence_call_of, meant, no_sentence, same}
use Rattle.sentences.proofs.Comparing.{pointwise_same}
use Rattle.sentences.proofs.Lines.{text_fine, name_fine}
use Rattle.sentences.proofs.Guessing.{ten_digits}
use Rattle.sentences.proofs.Promises.{words_named, words_alone, words_short, sentence_known}
use Rattle.sentences.proofs.Promises.{sentence_unknown, sentence_length}

-- ---- the words
pub first_put : (line a text : List ℕ) → length text ≤ 64 → length line ≡ 100 → a ≡ put_of line 0 text → a ≡ front_of text line
first_put line a text s l p = put_next line [] text line a 0 refl refl p (omega arith)

module _ (n p : ℕ) (line t a : List ℕ) (e : t ≡ text_of n) (l : length line ≡ 100) (f : a ≡ put_of line 0 t) where
  front : a ≡ front_of (text_of n) line
  front = first_put line a (text_of n) (text_fine n).short l (f ∙ ap (put_of line 0) e)

  pub text_put : ends_in_colon t ≡ false → (length t ≡ length (words_of n p)) × (a ≡ front_of (words_of n p) line)
  text_put h =
      let w = sym (words_alone n p (sym (ap ends_in_colon e) ∙ h)) in
      (ap length (e ∙ w), front ∙ ap (λ (t : List ℕ). front_of t line) w)

  pub both_put : (m b : List ℕ) → m ≡ name_of p → b ≡ put_of a (length t) m → ends_in_colon t ≡ true
      → (length t + length m ≡ length (words_of n p)) × (b ≡ front_of (words_of n p) line)
  both_put m b g q h =
      let w = sym (words_named n p (sym (ap ends_in_colon e) ∙ h)) in let x = (text_fine n).short in let y = (name_fine p).short in
      let r : b ≡ put_of a (length (text_of n)) (name_of p) = rw (e, g) at q in (
        rw (e, g) (sym (length-append (text_of n) (name_of p)) ∙ ap length w),
        put_next line (text_of n) (name_of p) a b (length (text_of n)) front refl r (omega arith) ∙ ap (λ (t : List ℕ). front_of t line) w,
      )

-- ---- whether a number is known, by its text
empty : (l : List ℕ) → length l ≡ 0 → l ≡ []
empty [] e = refl
empty (b ∷ bs) e = absurd (omega arith)

no_words : (n p : ℕ) → text_of n ≡ [] → words_of n p ≡ []
unfolding words_of
no_words n p e = rw e

module _ (n p : ℕ) (line t : List ℕ) (e : t ≡ text_of n) where
  pub no_text : eqb (length t) 0 ≡ true → (known n ≡ false) × (line ≡ front_of (words_of n p) line)
  no_text h =
      let z = eqb-true (length t) 0 h in
      (le-ltb 0 (length (text_of n)) (omega (arith, ap length e)), rw (no_words n p (sym e ∙ empty t z)))

  pub some_text : eqb (length t) 0 ≡ false → known n ≡ true
  some_text h = let z = eqb-false (length t) 0 h in lt-ltb 0 (length (text_of n)) (omega (arith, ap length e))

-- ---- the words, a blank and the place's digits at the front of a line
module _ (n p : ℕ) (line a b c : List ℕ) (w d : ℕ) (l : length line ≡ 100) (h : p < none) (e : w ≡ length (words_of n p))
    (g : d ≡ length (decimal_of p)) where
  pub line_holds : w + 1 + d ≤ 100
  line_holds = let s = words_short n p in let t = ten_digits p h in omega arith

  pub line_filled : known n ≡ true → a ≡ front_of (words_of n p) line → b ≡ put_of a w (ascii " ") → c ≡ put_of b (w + 1) (decimal_of p)
      → (w + 1 + d ≡ length (sentence_of n p)) × (c ≡ front_of (sentence_of n p) line)
  line_filled k f q r =
      let s = words_short n p in let t = ten_digits p h in let m = length-append (words_of n p) (ascii " ") in
      let u : b ≡ front_of (words_of n p ++ ascii " ") line = put_next line (words_of n p) (ascii " ") a b w f e q (omega arith) in
      let y = sentence_length n p k in (
        omega arith,
        put_next line (words_of n p ++ ascii " ") (decimal_of p) b c (w + 1) u (omega arith) r (omega arith)
            ∙ ap (λ (t : List ℕ). front_of t line) (sym (sentence_known n p k)),
      )

  pub line_says : known n ≡ true → a ≡ front_of (words_of n p) line → b ≡ put_of a w (ascii " ") → c ≡ put_of b (w + 1) (decimal_of p)
      → take (w + 1 + d) c ≡ sentence_of n p
  line_says k f q r = let m = line_filled k f q r in cut_front (sentence_of n p) line c (w + 1 + d) m.0 m.1

-- an unknown number has no words, and so no sentence: the line stays
pub line_stays : (n p : ℕ) (line a : List ℕ) → known n ≡ false → a ≡ front_of (words_of n p) line → a ≡ front_of (sentence_of n p) line
line_stays n p line a k f =
    let none-said = no_words n p (empty (text_of n) (omega (arith, ltb-false 0 (length (text_of n)) k))) in
    f ∙ ap (λ (t : List ℕ). front_of t line) (none-said ∙ sym (sentence_unknown n p k))

-- ---- what writing returns and leaves
pub writes_unknown : (n p : ℕ) (buffer : List ℕ) → known n ≡ false → sentence_call_of n p buffer ≡ refusing out_of_range buffer
unfolding sentence_call_of
writes_unknown n p buffer k = rw k

pub writes_no_room : (n p : ℕ) (buffer : List ℕ) → known n ≡ true → length buffer < length (sentence_of n p)
    → sentence_call_of n p buffer ≡ refusing buffer_short buffer
unfolding sentence_call_of
writes_no_room n p buffer k h = rw (k, lt-leb (length (sentence_of n p)) (length buffer) h)

pub writes : (n p end : ℕ) (buffer : List ℕ) → known n ≡ true → end ≡ length (sentence_of n p) → end ≤ length buffer
    → sentence_call_of n p buffer ≡ record { answer = written end; buffer = put_of buffer 0 (sentence_of n p) }
unfolding sentence_call_of
writes n p end buffer k e h =
    let put = put_next buffer [] (sentence_of n p) buffer (put_of buffer 0 (sentence_of n p)) 0 refl refl refl (omega arith) in
    rw (k, le-leb (length (sentence_of n p)) (length buffer) (omega arith), e, put)

-- ---- what reading returns
found : (v p : ℕ) → Some p ≡ place_from v → (v ≡ p) × (ltb v none ≡ true)
found v p e =
    cases (ltb v none) (λ t. let f : Some p ≡ Some v = rw t at e in (cc, t)) (λ t. let f : Some p ≡ None = rw t at e in cc)

module _ (bytes : List ℕ) where
  pub reads_no_place : None ≡ place_from (place_in 0 bytes) → no_sentence ≡ guessed_of bytes
  unfolding guessed_of
  reads_no_place e = cases (ltb (place_in 0 bytes) none) (λ t. let f : None ≡ Some (place_in 0 bytes) = rw t at e in cc) (λ t. rw t)

  module _ (n p : ℕ) (e : n ≡ number_in bytes) (q : Some p ≡ place_from (place_in 0 bytes)) where
    at-these : guessed_of bytes ≡ cond (known n && same (sentence_of n p) bytes) (meant n p) no_sentence
    unfolding guessed_of
    at-these = let f = found (place_in 0 bytes) p q in rw (f.1, f.0, ← e)

    pub reads_unknown : known n ≡ false → no_sentence ≡ guessed_of bytes
    reads_unknown k = rw (at-these, k)

    pub reads_known : (s : List ℕ) (b : Bool) (r : Refusal) (o : Option Refusal) → known n ≡ true → s ≡ sentence_of n p
        → b ≡ pointwise nat_eq s bytes → r ≡ refusal n p → o ≡ then_some b r → meaning_from o ≡ guessed_of bytes
    reads_known s b r o k t e f g =
        let h = pointwise_same (sentence_of n p) bytes in
        rw (at-these, k, g, e, f, t, ← h) (cases (same (sentence_of n p) bytes) (λ y. rw y) (λ y. rw y))
