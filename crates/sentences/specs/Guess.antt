-- This file need not be believed: where the code looks for the number and the place that bytes say, before it compares their whole
-- sentence.
use Rattle.std.specs.Prelude.{ℕ, ◌+◌, ◌*◌, ◌-◌, ◌^◌, Bool, cond, ◌&&◌, List, [], ◌∷◌, leb, ltb, get_or, Option, Some, None}
use Rattle.refusals.specs.declared.Refusal.{Refusal}
use Rattle.sentences.specs.declared.Meaning.{Meaning}
use Rattle.sentences.specs.Table.{known}
use Rattle.sentences.specs.Sentences.{sentence_of, meant, no_sentence, same}

abbrev pub is_digit : ℕ → Bool
is_digit b = leb 48 b && leb b 57

-- the number is in the bytes 8 and 9, or in 8 alone
unfoldable pub number_in : List ℕ → ℕ
number_in bytes =
    let tens = get_or bytes 8 0 - 48 in
    let b = get_or bytes 9 0 in
    cond (is_digit b) (10 * tens + (b - 48)) tens

-- no place: a place has 32 bits
abbrev pub none : ℕ
none = 2 ^ 32

-- a number and one byte more: a digit makes it longer, up to `none`, and any other byte starts again from 0
abbrev pub longer : ℕ → ℕ → ℕ
longer v b = cond (is_digit b) (cond (ltb (10 * v + (b - 48)) none) (10 * v + (b - 48)) none) 0

-- the number at the end of the bytes; v is the number that was read before them
unfoldable pub place_in : ℕ → List ℕ → ℕ
place_in v [] = v
place_in v (b ∷ bs) = place_in (longer v b) bs

-- the bytes say the number and the place found in them if they are exactly the sentence of these two
unfoldable pub guessed_of : List ℕ → Meaning
guessed_of bytes =
    let n = number_in bytes in
    let p = place_in 0 bytes in
    cond (ltb p none && known n && same (sentence_of n p) bytes) (meant n p) no_sentence

-- a place as the code has it: none is None
abbrev pub place_from : ℕ → Option ℕ
place_from v = cond (ltb v none) (Some v) None

-- what is returned for the refusal that bytes say
abbrev pub meaning_from : Option Refusal → Meaning
meaning_from (Some r) = meant r.number r.place
meaning_from None = no_sentence
