-- Request 8, "Refusals in words": a refusal's sentence, what writing returns and leaves in the buffer, and what reading returns.
use Rattle.std.specs.Prelude.{ℕ, zero, suc, ◌-◌, ◌^◌, Bool, true, false, cond, List, [], ◌∷◌, ◌++◌, leb, eqb, length, get_or}
use Rattle.text.specs.Text.{ascii, decimal_of, front_of}
use Rattle.refusals.specs.Refusals.{out_of_range, buffer_short, numbers}
use Rattle.sentences.specs.declared.WrittenSentence.{WrittenSentence}
use Rattle.sentences.specs.declared.Meaning.{Meaning}
use Rattle.sentences.specs.Table.{text_of, name_of, known}

-- ---- the sentence
abbrev pub ends_in_colon : List ℕ → Bool
ends_in_colon text = eqb (get_or text (length text - 1) 0) 58

-- `Refusal 7: the sun does not rise (day 0 is the row's date), day`, or `Refusal 4: the order lacks a field: method, tag`
unfoldable pub words_of : ℕ → ℕ → List ℕ
words_of n p = cond (ends_in_colon (text_of n)) (text_of n ++ name_of p) (text_of n)

-- the words, a blank and the place: `Refusal 4: the order lacks a field: method, tag 6`. An unknown number has no sentence
unfoldable pub sentence_of : ℕ → ℕ → List ℕ
sentence_of n p = cond (known n) (words_of n p ++ ascii " " ++ decimal_of p) []

-- ---- writing: what the call returns, and every byte of the lent buffer after it
pub record SentenceCall : Type 0 where
  pub answer : WrittenSentence
  pub buffer : List ℕ

abbrev pub unwritten : ℕ → WrittenSentence
unwritten number = record { number = number; place = 0; length = 0 }

abbrev pub written : ℕ → WrittenSentence
written length = record { number = 0; place = 0; length = length }

-- "A refusal .. changes no lent byte."
abbrev pub refusing : ℕ → List ℕ → SentenceCall
refusing number buffer = record { answer = unwritten number; buffer = buffer }

-- "An unknown number gets 5, place 0, before the buffer is checked. A buffer shorter than the sentence gets 9." Else it is "at the front of
-- a lent buffer", and the bytes after it stay
unfoldable pub sentence_call_of : ℕ → ℕ → List ℕ → SentenceCall
sentence_call_of n p buffer =
    let sentence = sentence_of n p in
    cond (known n)
    (cond (leb (length sentence) (length buffer)) (record { answer = written (length sentence); buffer = front_of sentence buffer })
    (refusing buffer_short buffer)) (refusing out_of_range buffer)

-- ---- reading
abbrev pub meant : ℕ → ℕ → Meaning
meant n p = record { number = 0; place = 0; of_number = n; of_place = p }

abbrev pub no_sentence : Meaning
no_sentence = record { number = out_of_range; place = 0; of_number = 0; of_place = 0 }

unfoldable pub same : List ℕ → List ℕ → Bool
same [] [] = true
same [] (b ∷ bs) = false
same (a ∷ ts) [] = false
same (a ∷ ts) (b ∷ bs) = cond (eqb a b) (same ts bs) false

-- the meaning of bytes that are the sentence of number n and one of the k lowest places; else `other`
unfoldable pub among_places : List ℕ → ℕ → ℕ → Meaning → Meaning
among_places bytes n zero other = other
among_places bytes n (suc k) other = cond (same (sentence_of n k) bytes) (meant n k) (among_places bytes n k other)

-- the meaning of bytes that are the sentence of one of some numbers and any place, which is a u32; else none
unfoldable pub among_numbers : List ℕ → List ℕ → Meaning
among_numbers bytes [] = no_sentence
among_numbers bytes (n ∷ rest) = among_places bytes n (2 ^ 32) (among_numbers bytes rest)

-- "a reader of the sentence recovers both and refuses all other bytes by 5, place 0"
abbrev pub meaning_of : List ℕ → Meaning
meaning_of bytes = among_numbers bytes numbers
