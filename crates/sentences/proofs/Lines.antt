-- What is true of each line of the two tables, by tests that antt computes over them. A new line needs no new proof. Assumes nothing.
use Rattle.prelude.proofs.Logic.{◌≡◌, refl, sym, subst, ◌∙◌, Bool, true, false, ◌&&◌, List, [], ◌∷◌, ℕ, zero, suc, ◌+◌, ◌≤◌, ◌<◌}
use Rattle.prelude.proofs.Logic.{zero-add, add-zero, suc-add, add-suc, arith, T, leb, eqb, leb→le, eqb→eq, length, get_or, ltb-true}
use Rattle.prelude.proofs.Logic.{and_l, and_r}
use Rattle.text.specs.Text.{ascii, printable}
use Rattle.sentences.specs.Table.{texts, names, text_of, name_of, known}
use Rattle.sentences.specs.Rows.{widest, widest_name}
use Rattle.sentences.specs.Guess.{number_in}

is_true : (b : Bool) → T b → b ≡ true
is_true true t = refl
is_true false t = absurd t

-- ---- a test at each line and its number, and at the line for all other numbers
abbrev every : (ℕ → List ℕ → Bool) → ℕ → List (List ℕ) → Bool
every f i [] = true
every f i (t ∷ ts) = f i t && every f (suc i) ts

from : (f : ℕ → List ℕ → Bool) (d : List ℕ) → ((n : ℕ) → T (f n d)) → (ts : List (List ℕ)) (i : ℕ) → T (every f i ts) → (k : ℕ)
    → T (f (i + k) (get_or ts k d))
from f d e [] i t k = e (i + k)
from f d e (x ∷ ts) i t zero = subst (λ (m : ℕ). T (f m x)) (sym (add-zero i)) (and_l (f i x) (every f (suc i) ts) t)
from f d e (x ∷ ts) i t (suc k) =
    subst (λ (m : ℕ). T (f m (get_or ts k d))) (suc-add i k ∙ sym (add-suc i k))
    (from f d e ts (suc i) (and_r (f i x) (every f (suc i) ts) t) k)

at : (f : ℕ → List ℕ → Bool) (d : List ℕ) → ((n : ℕ) → T (f n d)) → (ts : List (List ℕ)) → T (every f 0 ts) → (n : ℕ)
    → T (f n (get_or ts n d))
at f d e ts t n = subst (λ (m : ℕ). T (f m (get_or ts n d))) (zero-add n) (from f d e ts 0 t n)

-- ---- a line is short enough, and printable
abbrev fine : ℕ → List ℕ → Bool
fine k t = leb (length t) k && printable t

pub record Fine (k : ℕ) (t : List ℕ) : Type 0 where
  pub short : length t ≤ k
  pub clean : printable t ≡ true

is_fine : (k : ℕ) (t : List ℕ) → T (fine k t) → Fine k t
is_fine k t h = record {
  short = leb→le (length t) k (and_l (leb (length t) k) (printable t) h);
  clean = is_true (printable t) (and_r (leb (length t) k) (printable t) h);
}

pub text_fine : (n : ℕ) → Fine widest (text_of n)
unfolding texts text_of printable
text_fine n = is_fine widest (text_of n) (at (λ m t. fine widest t) [] (λ m. tt) texts tt n)

pub name_fine : (tag : ℕ) → Fine widest_name (name_of tag)
unfolding names name_of printable
name_fine tag = is_fine widest_name (name_of tag) (at (λ m t. fine widest_name t) (ascii " tag") (λ m. tt) names tt tag)

-- ---- each text that is not empty says its own number
abbrev says : ℕ → List ℕ → Bool
says n [] = true
says n (b ∷ bs) = eqb (number_in (b ∷ bs)) n && leb 10 (length (b ∷ bs))

all_say : (n : ℕ) → T (says n (text_of n))
unfolding texts text_of number_in
all_say n = at says [] (λ m. tt) texts tt n

says_both : (n : ℕ) (t : List ℕ) → T (says n t) → 0 < length t → (number_in t ≡ n) × (10 ≤ length t)
says_both n [] s h = absurd (omega arith)
says_both n (b ∷ bs) s h =
    let t = b ∷ bs in (
      eqb→eq (number_in t) n (and_l (eqb (number_in t) n) (leb 10 (length t)) s),
      leb→le 10 (length t) (and_r (eqb (number_in t) n) (leb 10 (length t)) s),
    )

pub text_says : (n : ℕ) → known n ≡ true → (number_in (text_of n) ≡ n) × (10 ≤ length (text_of n))
text_says n k = says_both n (text_of n) (all_say n) (ltb-true 0 (length (text_of n)) k)
