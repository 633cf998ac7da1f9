-- Two byte strings that are the same. Assumes nothing.
use Rattle.prelude.proofs.Logic.{◌≡◌, refl, true, false≢true, List, [], ◌∷◌, ℕ, eqb}
use Rattle.prelude.proofs.Logic.{eq-eqb, eqb-true, cases}
use Rattle.std.proofs.Common.{nat_eq}
use Rattle.std.specs.Cmp.Lexicographic.{pointwise}
use Rattle.sentences.specs.Sentences.{same}

pub same_itself : (t : List ℕ) → same t t ≡ true
unfolding same
same_itself [] = refl
same_itself (b ∷ bs) = rw (eq-eqb b b refl) (same_itself bs)

pub same_only : (t s : List ℕ) → same t s ≡ true → t ≡ s
unfolding same
same_only [] [] e = refl
same_only [] (b ∷ bs) e = absurd (false≢true e)
same_only (a ∷ ts) [] e = absurd (false≢true e)
same_only (a ∷ ts) (b ∷ bs) e =
    cases (eqb a b) (λ h. let i = same_only ts bs (simp h at e) in let j = eqb-true a b h in cc) (λ h. absurd (false≢true (simp h at e)))

pub pointwise_same : (t s : List ℕ) → same t s ≡ pointwise nat_eq t s
unfolding same
pointwise_same [] [] = refl
pointwise_same [] (b ∷ bs) = refl
pointwise_same (a ∷ ts) [] = refl
pointwise_same (a ∷ ts) (b ∷ bs) = cases (eqb a b) (λ h. rw h (pointwise_same ts bs)) (λ h. rw h)
