-- What request 8 promises, as statements; proofs/Promises.antt proves them.
use Rattle.std.specs.Prelude.{ℕ, ◌≤◌, ◌<◌, ◌^◌, ◌≡◌, true, List, length, take}
use Rattle.prelude.specs.Lists.{listed}
use Rattle.refusals.specs.Refusals.{numbers}
use Rattle.text.specs.Text.{printable, front_of}
use Rattle.sentences.specs.declared.Meaning.{Meaning}
use Rattle.sentences.specs.Table.{known}
use Rattle.sentences.specs.Sentences.{sentence_of, sentence_call_of, meant, no_sentence, meaning_of}

-- the bytes are the sentence of a known number and a place
pub record Says (bytes : List ℕ) (n p : ℕ) : Type 0 where
  pub number : known n ≡ true
  pub place : p < 2 ^ 32
  pub sentence : bytes ≡ sentence_of n p

-- "a sentence for each refusal": the numbers that have one are those of the table of refusals, and no other
abbrev pub EachHasASentence : Type 0
EachHasASentence = (n : ℕ) → known n ≡ listed numbers n

-- "any two refusals that differ in number or place have different sentences": one sentence is one refusal's
abbrev pub Different : Type 0
Different = (bytes : List ℕ) (n m p q : ℕ) → Says bytes n p → Says bytes m q → (n ≡ m) × (p ≡ q)

-- "at most 100 bytes of printable ASCII"
abbrev pub Printed : Type 0
Printed = (n p : ℕ) → p < 2 ^ 32 → (length (sentence_of n p) ≤ 100) × (printable (sentence_of n p) ≡ true)

-- "a reader of the sentence recovers both"
abbrev pub ReadBack : Type 0
ReadBack = (bytes : List ℕ) (n p : ℕ) → Says bytes n p → meaning_of bytes ≡ meant n p

-- "and refuses all other bytes by 5, place 0"
pub data ReadAsSentence (bytes : List ℕ) : Meaning → Type 0 where
  says : (n p : ℕ) → Says bytes n p → ReadAsSentence bytes (meant n p)
  other : ((n p : ℕ) → Says bytes n p → ⊥) → ReadAsSentence bytes no_sentence

abbrev pub ReadsOnlySentences : Type 0
ReadsOnlySentences = (bytes : List ℕ) → ReadAsSentence bytes (meaning_of bytes)

-- "is written at the front of a lent buffer": a buffer with room has the sentence there, then its own bytes, and the sentence is read back
abbrev pub WrittenAndRead : Type 0
WrittenAndRead = (buffer : List ℕ) (n p : ℕ) → known n ≡ true → p < 2 ^ 32 → length (sentence_of n p) ≤ length buffer
    → ((sentence_call_of n p buffer).buffer ≡ front_of (sentence_of n p) buffer)
    × (meaning_of (take (length (sentence_of n p)) (sentence_call_of n p buffer).buffer) ≡ meant n p)
