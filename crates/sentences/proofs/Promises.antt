-- The promises of request 8: `each_has_a_sentence`, `printed`, `read_back_lem`, `different`, `reads_only_sentences`, `written_and_read`.
-- Assumes nothing.
use Rattle.prelude.proofs.Logic.{◌≡◌, refl, sym, ap, subst, ◌∙◌, Bool, true, false, false≢true, not, cond, ◌&&◌, and-eq-true_iff, List, []}
use Rattle.prelude.proofs.Logic.{◌∷◌, ◌++◌, append_assoc, ℕ, zero, suc, ◌+◌, ◌/◌, ◌≤◌, ◌<◌, arith, leb, ltb, eqb, T, length, get_or, take}
use Rattle.prelude.proofs.Logic.{List·getD-eq-default, length-append, le-leb, lt-ltb, ltb-true, ltb-false, leb-true, eq-eqb, ne_eqb}
use Rattle.prelude.proofs.Logic.{eqb-true, cases, either}
use Rattle.prelude.specs.Lists.{listed}
use Rattle.prelude.proofs.Computed.{at}
use Rattle.refusals.specs.Refusals.{numbers}
use Rattle.text.specs.Text.{ascii, printable, digit_of, digits_of, decimal_of, front_of}
use Rattle.text.proofs.TextLaws.{cut_front}
use Rattle.sentences.specs.{declared.Meaning.Meaning, Rows.widest, Rows.widest_name}
use Rattle.sentences.specs.Table.{texts, text_of, name_of, known}
use Rattle.sentences.specs.Guess.{none, number_in, place_in, guessed_of}
use Rattle.sentences.specs.Sentences.{ends_in_colon, words_of, sentence_of, sentence_call_of, meant, no_sentence, same, among_places}
use Rattle.sentences.specs.Sentences.{among_numbers, meaning_of}
use Rattle.sentences.specs.Promises.{EachHasASentence, Says, Different, Printed, ReadBack, ReadAsSentence, ReadsOnlySentences}
use Rattle.sentences.specs.Promises.{WrittenAndRead, ReadAsSentence.says, ReadAsSentence.other}
use Rattle.sentences.proofs.Lines.{text_fine, name_fine, text_says}
use Rattle.sentences.proofs.Guessing.{number_append, ten_digits, place_back}
use Rattle.sentences.proofs.Comparing.{same_itself, same_only}

-- ---- the numbers that have a sentence
-- a number over the largest in a list is not in the list
up_to : ℕ → List ℕ → Bool
up_to most [] = true
up_to most (x ∷ xs) = leb x most && up_to most xs

none_over : (most n : ℕ) (xs : List ℕ) → up_to most xs ≡ true → most < n → listed xs n ≡ false
unfolding listed up_to
none_over most n [] e h = refl
none_over most n (x ∷ xs) e h =
    let u = (and-eq-true_iff (leb x most) (up_to most xs)).0 e in
    let l = leb-true x most u.0 in
    rw (ne_eqb x n (omega arith)) (none_over most n xs u.1 h)

equal : (a b : Bool) → T (cond a b (not b)) → a ≡ b
equal true true t = refl
equal true false t = absurd t
equal false true t = absurd t
equal false false t = refl

pub each_has_a_sentence : EachHasASentence
unfolding text_of texts listed up_to
each_has_a_sentence n =
    cases (ltb n 19) (λ h. equal (known n) (listed numbers n)
    (at (λ k. cond (known k) (listed numbers k) (not (listed numbers k))) 19 tt n (ltb-true n 19 h)))
    (λ h. let l = ltb-false n 19 h in
    let e : get_or texts n [] ≡ [] = List·getD-eq-default texts [] l in
    rw (e, none_over 18 n numbers refl (omega arith)))

-- ---- printable bytes
printable_append : (s t : List ℕ) → printable s ≡ true → printable t ≡ true → printable (s ++ t) ≡ true
unfolding printable
printable_append [] t a b = b
printable_append (x ∷ s) t a b =
    let u = (and-eq-true_iff (leb 32 x && leb x 126) (printable s)).0 a in
    rw u.0 (printable_append s t u.1 b)

printable_digit : (n : ℕ) → printable (digit_of n ∷ []) ≡ true
unfolding printable
printable_digit n = rw (le-leb 32 (digit_of n) (omega arith), le-leb (digit_of n) 126 (omega arith))

printable_digits : (k n : ℕ) → printable (digits_of k n) ≡ true
unfolding digits_of printable
printable_digits zero n = refl
printable_digits (suc k) n =
    either (λ d. printable d ≡ true) (ltb n 10) (printable_digit n)
    (printable_append (digits_of k (n / 10)) (digit_of n ∷ []) (printable_digits k (n / 10)) (printable_digit n))

-- ---- the words before the place, with a tag's name or without
pub words_named : (n p : ℕ) → ends_in_colon (text_of n) ≡ true → words_of n p ≡ text_of n ++ name_of p
unfolding words_of
words_named n p e = rw e

pub words_alone : (n p : ℕ) → ends_in_colon (text_of n) ≡ false → words_of n p ≡ text_of n
unfolding words_of
words_alone n p e = rw e

-- what is true of the words that begin with a text
record Begun (text words : List ℕ) : Type 0 where
  short : length words ≤ widest + widest_name
  long : length text ≤ length words
  clean : printable words ≡ true
  number : 10 ≤ length text → number_in words ≡ number_in text

words_begun : (n p : ℕ) → Begun (text_of n) (words_of n p)
words_begun n p =
    let t = text_fine n in let m = name_fine p in let l = length-append (text_of n) (name_of p) in
    cases (ends_in_colon (text_of n)) (λ e. rw (words_named n p e) (record {
      short = omega arith;
      long = omega arith;
      clean = printable_append (text_of n) (name_of p) t.clean m.clean;
      number = number_append (text_of n) (name_of p);
    })) (λ e. rw (words_alone n p e) (record { short = omega arith; long = omega arith; clean = t.clean; number = λ h. refl }))

pub words_short : (n p : ℕ) → length (words_of n p) ≤ 89
words_short n p = (words_begun n p).short

pub words_long : (n p : ℕ) → length (text_of n) ≤ length (words_of n p)
words_long n p = (words_begun n p).long

pub sentence_known : (n p : ℕ) → known n ≡ true → sentence_of n p ≡ words_of n p ++ ascii " " ++ decimal_of p
unfolding sentence_of
sentence_known n p k = rw k

pub sentence_unknown : (n p : ℕ) → known n ≡ false → sentence_of n p ≡ []
unfolding sentence_of
sentence_unknown n p k = rw k

pub sentence_length : (n p : ℕ) → known n ≡ true → length (sentence_of n p) ≡ length (words_of n p) + 1 + length (decimal_of p)
sentence_length n p k =
    ap length (sentence_known n p k)
    ∙ length-append (words_of n p ++ ascii " ") (decimal_of p)
    ∙ ap (λ (m : ℕ). m + length (decimal_of p)) (length-append (words_of n p) (ascii " "))

-- ---- at most a hundred printable bytes
pub printed : Printed
unfolding printable
printed n p h = cases (known n) (λ k. let e = sentence_length n p k in let w = words_begun n p in let d = ten_digits p h in
    let c = printable_append (words_of n p) (ascii " ") w.clean refl in
    (omega arith, rw (sentence_known n p k) (printable_append (words_of n p ++ ascii " ") (decimal_of p) c (printable_digits 20 p))))
    (λ k. rw (sentence_unknown n p k) (omega arith, refl))

-- ---- the code's way reads a sentence back
guessed_at : (bytes : List ℕ) (n p : ℕ) → number_in bytes ≡ n → place_in 0 bytes ≡ p → p < none → known n ≡ true
    → same (sentence_of n p) bytes ≡ true
    → guessed_of bytes ≡ meant n p
unfolding guessed_of
guessed_at bytes n p e d h k s = rw (e, d, k, s, lt-ltb p none h)

number_back : (n p : ℕ) → known n ≡ true → number_in (words_of n p ++ ascii " " ++ decimal_of p) ≡ n
number_back n p k =
    let t = text_says n k in let w = words_begun n p in let long = t.1 in
    ap number_in (append_assoc (words_of n p) (ascii " ") (decimal_of p))
    ∙ number_append (words_of n p) (ascii " " ++ decimal_of p) (omega arith) ∙ w.number long ∙ t.0

guessed_back : (bytes : List ℕ) (n p : ℕ) → Says bytes n p → guessed_of bytes ≡ meant n p
guessed_back bytes n p s =
    let k = s.number in let e : bytes ≡ words_of n p ++ ascii " " ++ decimal_of p = s.sentence ∙ sentence_known n p k in
    guessed_at bytes n p
    (ap number_in e ∙ number_back n p k)
    (ap (place_in 0) e ∙ place_back (words_of n p) p s.place)
    s.place
    k
    (ap (same (sentence_of n p)) s.sentence ∙ same_itself (sentence_of n p))

-- ---- and it reads no other bytes
module _ (bytes : List ℕ) where
  abbrev n : ℕ
  n = number_in bytes

  abbrev p : ℕ
  p = place_in 0 bytes

  abbrev test : Bool
  test = ltb p none && known n && same (sentence_of n p) bytes

  refused_bytes : test ≡ false → guessed_of bytes ≡ no_sentence
  unfolding guessed_of
  refused_bytes e = rw e

  accepted-bytes : test ≡ true → Says bytes n p
  accepted-bytes e =
      let t = (and-eq-true_iff (ltb p none && known n) (same (sentence_of n p) bytes)).0 e in
      let u = (and-eq-true_iff (ltb p none) (known n)).0 t.0 in
      record { number = u.1; place = ltb-true p none u.0; sentence = sym (same_only (sentence_of n p) bytes t.1) }

-- ---- the definition, which tries all sentences, finds the same. Each sentence that it finds is the guessed one, since that one is read
-- back. So the search meets the guessed one, and going on changes nothing.
module _ (bytes : List ℕ) where
  met : (n p : ℕ) → known n ≡ true → p < none → same (sentence_of n p) bytes ≡ true → meant n p ≡ guessed_of bytes
  met n p k h s = sym (guessed_back bytes n p (record { number = k; place = h; sentence = sym (same_only (sentence_of n p) bytes s) }))

  places-after : (n k : ℕ) (after : Meaning) → known n ≡ true → k ≤ none → after ≡ guessed_of bytes
      → among_places bytes n k after ≡ guessed_of bytes
  unfolding among_places
  places-after n zero after y h e = e
  places-after n (suc k) after y h e =
      cases (same (sentence_of n k) bytes) (λ s. rw s (met n k y (omega arith) s)) (λ s. rw s (places-after n k after y (omega arith) e))

  places-meet : (n p k : ℕ) (after : Meaning) → known n ≡ true → k ≤ none → p < k → same (sentence_of n p) bytes ≡ true
      → among_places bytes n k after ≡ guessed_of bytes
  unfolding among_places
  places-meet n p zero after y h l s = absurd (omega arith)
  places-meet n p (suc k) after y h l s =
      cases (same (sentence_of n k) bytes) (λ e. rw e (met n k y (omega arith) e))
      (λ e. rw e (cases (ltb p k) (λ t. places-meet n p k after y (omega arith) (ltb-true p k t) s)
      (λ t. let u = ltb-false p k t in let same_place : p ≡ k = omega arith in absurd (false≢true (sym e ∙ rw same_place at s)))))

  abbrev allKnown : List ℕ → Type 0
  allKnown xs = (n : ℕ) → listed xs n ≡ true → known n ≡ true

  rest-known : (x : ℕ) (xs : List ℕ) → allKnown (x ∷ xs) → allKnown xs
  unfolding listed
  rest-known x xs y n l = y n (cases (eqb x n) (λ e. rw e) (λ e. rw e l))

  first-known : (x : ℕ) (xs : List ℕ) → allKnown (x ∷ xs) → known x ≡ true
  unfolding listed
  first-known x xs y = y x (rw (eq-eqb x x refl))

  numbers-without : (xs : List ℕ) → allKnown xs → no_sentence ≡ guessed_of bytes → among_numbers bytes xs ≡ guessed_of bytes
  unfolding among_numbers
  numbers-without [] y e = e
  numbers-without (x ∷ xs) y e =
      places-after x none (among_numbers bytes xs) (first-known x xs y) (omega arith) (numbers-without xs (rest-known x xs y) e)

  numbers-meet : (xs : List ℕ) (n p : ℕ) → allKnown xs → listed xs n ≡ true → p < none → same (sentence_of n p) bytes ≡ true
      → among_numbers bytes xs ≡ guessed_of bytes
  unfolding among_numbers listed
  numbers-meet [] n p y l h s = absurd (false≢true l)
  numbers-meet (x ∷ xs) n p y l h s =
      cases (eqb x n)
      (λ e. places-meet x p none (among_numbers bytes xs) (first-known x xs y) (omega arith) h (rw (← eqb-true x n e) at s))
      (λ e. places-after x none (among_numbers bytes xs) (first-known x xs y) (omega arith)
      (numbers-meet xs n p (rest-known x xs y) (rw e at l) h s))

  numbers-known : allKnown numbers
  numbers-known n l = each_has_a_sentence n ∙ l

  pub guessed-right : guessed_of bytes ≡ meaning_of bytes
  guessed-right =
      cases (test bytes)
      (λ e. let s = accepted-bytes bytes e in
      let itself = ap (same (sentence_of (n bytes) (p bytes))) s.sentence ∙ same_itself (sentence_of (n bytes) (p bytes)) in
      sym (numbers-meet numbers (n bytes) (p bytes) numbers-known (sym (each_has_a_sentence (n bytes)) ∙ s.number) s.place itself))
      (λ e. sym (numbers-without numbers numbers-known (sym (refused_bytes bytes e))))

-- ---- so a sentence is read back
pub read_back_lem : ReadBack
read_back_lem bytes n p s = sym (guessed-right bytes) ∙ guessed_back bytes n p s

-- ---- refusals that differ have different sentences
pub different : Different
different bytes n m p q s u =
    let e : meant n p ≡ meant m q = sym (read_back_lem bytes n p s) ∙ read_back_lem bytes m q u in
    (ap (λ (r : Meaning). r.of_number) e, ap (λ (r : Meaning). r.of_place) e)

-- ---- nothing but sentences is read
pub reads_only_sentences : ReadsOnlySentences
reads_only_sentences bytes =
    cases (test bytes)
    (λ e. let s = accepted-bytes bytes e in
    subst (ReadAsSentence bytes) (sym (read_back_lem bytes (n bytes) (p bytes) s)) (says (n bytes) (p bytes) s))
    (λ e. subst (ReadAsSentence bytes) (sym (sym (guessed-right bytes) ∙ refused_bytes bytes e)) (other (λ m q s. never m q e s)))
  where
    never : (m q : ℕ) → test bytes ≡ false → Says bytes m q → ⊥
    never m q e s =
        let z : ◌≡◌ {A = ℕ} 5 0 =
        ap (λ (r : Meaning). r.number) (sym (sym (guessed-right bytes) ∙ refused_bytes bytes e) ∙ read_back_lem bytes m q s) in
        omega arith

-- ---- what was written is read back
call_written : (buffer : List ℕ) (n p : ℕ) → known n ≡ true → length (sentence_of n p) ≤ length buffer
    → (sentence_call_of n p buffer).buffer ≡ front_of (sentence_of n p) buffer
unfolding sentence_call_of
call_written buffer n p k room = rw (k, le-leb (length (sentence_of n p)) (length buffer) room)

pub written_and_read : WrittenAndRead
written_and_read buffer n p k h room =
    let s = sentence_of n p in
    let made = call_written buffer n p k room in (
      made,
      read_back_lem (take (length s) (sentence_call_of n p buffer).buffer) n p
          (record { number = k; place = h; sentence = cut_front s buffer (sentence_call_of n p buffer).buffer (length s) refl made }),
    )
