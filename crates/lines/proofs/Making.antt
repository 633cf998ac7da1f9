-- A refusal's line, made part by part. Assumes nothing.
use Rattle.prelude.proofs.Logic.{◌≡◌, refl, ap, ◌∙◌, List, [], ◌++◌, ℕ, ◌+◌, ◌≤◌, arith, length, length-append}
use Rattle.refusals.specs.declared.Refusal.{Refusal}
use Rattle.text.specs.Text.{ascii, decimal_of, put_of, front_of}
use Rattle.text.proofs.TextLaws.{put_behind, put_next, digits_short}
use Rattle.lines.specs.Lines.{number_text, refused_text}
use Rattle.lines.proofs.LinesLaws.{number_length}

pub number_made : (line worded done word : List ℕ) (at n : ℕ) → at + length word + 20 ≤ length line → worded ≡ put_of line at word
    → done ≡ put_of worded (at + length word) (decimal_of n) → done ≡ put_of line at (number_text word n)
unfolding number_text
number_made line worded done word at n room a b =
    let d = digits_short 20 n in
    b ∙ ap (λ (l : List ℕ). put_of l (at + length word) (decimal_of n)) a ∙ put_behind line word (decimal_of n) at (omega arith)

pub number_end : (word : List ℕ) (at n k : ℕ) → k ≡ length (decimal_of n) → at + length word + k ≡ at + length (number_text word n)
unfolding number_text
number_end word at n k e = let a = length-append word (decimal_of n) in omega arith

module _ (line whose word : List ℕ) (r : Refusal) (a : length whose ≤ 10) (b : length word ≤ 10) (c : length line ≡ 70) where
  abbrev number : List ℕ
  number = number_text (ascii " refused ") r.number

  abbrev place : List ℕ
  place = number_text word r.place

  pub line_made : (one two three four : List ℕ) (m n : ℕ)
      → one ≡ put_of line 0 whose
      → m ≡ length whose + length number → two ≡ put_of one (length whose) number
      → n ≡ m + length place → three ≡ put_of two m place
      → four ≡ put_of three n (ascii "\n")
      → (n + 1 ≡ length (refused_text whose word r)) × (four ≡ front_of (refused_text whose word r) line)
  unfolding refused_text
  line_made one two three four m n p i q j s t =
      let x = number_length (ascii " refused ") r.number in
      let y = number_length word r.place in
      let d = length-append whose number in
      let e = length-append (whose ++ number) place in
      let f = length-append (whose ++ number ++ place) (ascii "\n") in
      let first = put_next line [] whose line one 0 refl refl p (omega arith) in
      let second = put_next line whose number one two (length whose) first refl q (omega arith) in
      let third = put_next line (whose ++ number) place two three m second (omega arith) s (omega arith) in
      (omega arith, put_next line (whose ++ number ++ place) (ascii "\n") three four n third (omega arith) t (omega arith))
