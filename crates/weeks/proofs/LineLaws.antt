-- A window's line, put piece by piece from an offset on. Assumes nothing.
use Rattle.std.specs.Prelude.{None, Option, Some}
use Rattle.prelude.proofs.Logic.{◌≡◌, refl, ap, ◌∙◌, List, ◌++◌, ℕ, ◌+◌, ◌≤◌, arith, ℤ, length, length-append}
use Rattle.text.proofs.TextLaws.{put_behind}
use Rattle.text.specs.Signed.{signed_of}
use Rattle.text.specs.Text.{ascii, decimal_of, put_of}
use Rattle.weeks.specs.declared.window.{Extremes.Extremes}
use Rattle.weeks.specs.Lines.{pair_text, line_of}

-- a text is put at `at`: it ends at `end`, and `now` is the buffer after it
abbrev Put : List ℕ → ℕ → List ℕ → List ℕ → ℕ → Type 0
Put buffer at text now end = (end ≡ at + length text) × (now ≡ put_of buffer at text)

-- one piece more
more : (buffer now after : List ℕ) (at end k : ℕ) (text piece : List ℕ) → Put buffer at text now end → after ≡ put_of now end piece
    → k ≡ length piece → at + length text + length piece ≤ length buffer → Put buffer at (text ++ piece) after (end + k)
more buffer now after at end k text piece p q e room =
    let l = length-append text piece in
    let n = p.0 in (
      omega arith,
      q ∙ ap (λ (b : List ℕ). put_of b end piece) p.1 ∙ ap (λ (i : ℕ). put_of (put_of buffer at text) i piece) n
          ∙ put_behind buffer text piece at (omega arith),
    )

-- the same, if the end of the piece is given and not its length
next : (buffer now after : List ℕ) (at end last : ℕ) (text piece : List ℕ) → Put buffer at text now end → after ≡ put_of now end piece
    → last ≡ end + length piece → at + length text + length piece ≤ length buffer → Put buffer at (text ++ piece) after last
next buffer now after at end last text piece p q e room =
    let m = more buffer now after at end (length piece) text piece p q refl room in (e ∙ m.0, m.1)

pub pair_bytes : (z : ℤ) (row : ℕ) → length (pair_text z row) ≡ 2 + length (signed_of z) + length (decimal_of row)
unfolding pair_text
pair_bytes z row = simp length-append (omega arith)

pub found_bytes : (first : ℕ) (x : Extremes)
    → length (line_of first (Some x))
    ≡ length (decimal_of first) + length (pair_text x.earliest x.earliest_row) + length (pair_text x.latest x.latest_row) + 1
unfolding line_of
found_bytes first x = simp length-append (omega arith)

pub refused_bytes : (first : ℕ) → length (line_of first None) ≡ length (decimal_of first) + 9
unfolding line_of
refused_bytes first = simp length-append (omega arith)

-- both kinds of line begin with the window's first row
pub line_front : (first : ℕ) (w : Option Extremes) → length (decimal_of first) ≤ length (line_of first w)
line_front first (Some x) = let n = found_bytes first x in omega arith
line_front first None = let n = refused_bytes first in omega arith

module _ (buffer : List ℕ) (at : ℕ) where
  pub pair_made : (z : ℤ) (row : ℕ) → at + length (pair_text z row) ≤ length buffer → (one two three four : List ℕ) (k j : ℕ)
      → one ≡ put_of buffer at (ascii " ") → k ≡ length (signed_of z) → two ≡ put_of one (at + 1) (signed_of z)
      → three ≡ put_of two (at + 1 + k) (ascii " ") → j ≡ length (decimal_of row) → four ≡ put_of three (at + 1 + k + 1) (decimal_of row)
      → Put buffer at (pair_text z row) four (at + 1 + k + 1 + j)
  unfolding pair_text
  pair_made z row room one two three four k j a b b' c d d' =
      let n = pair_bytes z row in
      let l = length-append (ascii " ") (signed_of z) in
      let m = length-append (ascii " " ++ signed_of z) (ascii " ") in
      let p = more buffer one two at (at + 1) k (ascii " ") (signed_of z) (refl, a) b' b (omega arith) in
      let q = more buffer two three at _ 1 (ascii " " ++ signed_of z) (ascii " ") p c refl (omega arith) in
      more buffer three four at _ j (ascii " " ++ signed_of z ++ ascii " ") (decimal_of row) q d' d (omega arith)

  pub found-made : (first : ℕ) (x : Extremes) → at + length (line_of first (Some x)) ≤ length buffer
      → (one two three four : List ℕ) (k i j : ℕ)
      → k ≡ length (decimal_of first) → one ≡ put_of buffer at (decimal_of first)
      → i ≡ at + k + length (pair_text x.earliest x.earliest_row)
      → two ≡ put_of one (at + k) (pair_text x.earliest x.earliest_row)
      → j ≡ i + length (pair_text x.latest x.latest_row) → three ≡ put_of two i (pair_text x.latest x.latest_row)
      → four ≡ put_of three j (ascii "\n") → Put buffer at (line_of first (Some x)) four (j + 1)
  unfolding line_of
  found-made first x room one two three four k i j a a' b b' c c' d =
      let n = found_bytes first x in
      let t1 : List ℕ = decimal_of first in
      let t2 : List ℕ = pair_text x.earliest x.earliest_row in
      let t3 : List ℕ = pair_text x.latest x.latest_row in
      let l2 = length-append t1 t2 in
      let l3 = length-append (t1 ++ t2) t3 in
      let p : Put buffer at (t1 ++ t2) two i =
      next buffer one two at (at + k) i t1 t2 (ap (λ (i : ℕ). at + i) a, a') b' b (omega arith) in
      let q : Put buffer at (t1 ++ t2 ++ t3) three j = next buffer two three at i j (t1 ++ t2) t3 p c' c (omega arith) in
      more buffer three four at j 1 (t1 ++ t2 ++ t3) (ascii "\n") q d refl (omega arith)

  pub refused-made : (first : ℕ) → at + length (line_of first None) ≤ length buffer → (one two : List ℕ) (k : ℕ)
      → k ≡ length (decimal_of first) → one ≡ put_of buffer at (decimal_of first) → two ≡ put_of one (at + k) (ascii " refused\n")
      → Put buffer at (line_of first None) two (at + k + 9)
  unfolding line_of
  refused-made first room one two k a a' b =
      let n = refused_bytes first in
      more buffer one two at (at + k) 9 (decimal_of first) (ascii " refused\n") (ap (λ (i : ℕ). at + i) a, a') b refl (omega arith)
