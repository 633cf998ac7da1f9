-- The first tag that does not pass, tag by tag. The reader's two loops use these laws. Assumes nothing.
use Rattle.prelude.proofs.Logic.{◌≡◌, refl, ap, ◌∙◌, Bool, true, false, cond, List, [], ◌∷◌, ℕ, zero, suc, ◌+◌, ◌≤◌, ◌<◌, add-one, arith}
use Rattle.prelude.proofs.Logic.{length, get_or, drop, drop_of_length-le, drop-cons, arms}
use Rattle.refusals.specs.Refusals.{refusal, no_refusal}
use Rattle.refusals.specs.declared.Refusal.{Refusal}
use Rattle.order.specs.Reading.{first_failing, tags_from}

module _ (number : ℕ) (passes : ℕ → Bool) (tags : List ℕ) (i : ℕ) where
  module _ (l : i < length tags) (tag : ℕ) (is_tag : get_or tags i 0 ≡ tag) where
    pub fails : passes tag ≡ false → first_failing number passes (drop i tags) ≡ refusal number tag
    unfolding first_failing
    fails h = rw (drop-cons tags i 0, is_tag) (simp h)

    pub on : passes tag ≡ true → first_failing number passes (drop i tags) ≡ first_failing number passes (drop (i + 1) tags)
    unfolding first_failing
    on h = rw (add-one, drop-cons tags i 0, is_tag) (simp h)

  pub none : length tags ≤ i → first_failing number passes (drop i tags) ≡ no_refusal
  unfolding first_failing
  none h = rw (drop_of_length-le tags h)

-- if none is refused, each passes
pub all_pass : (number : ℕ) (passes : ℕ → Bool) (tags : List ℕ) → 1 ≤ number → (first_failing number passes tags).number ≡ 0
    → (i : ℕ) → i < length tags → passes (get_or tags i 0) ≡ true
unfolding first_failing
all_pass number passes [] l e i h = absurd (omega arith)
all_pass number passes (tag ∷ rest) l e zero h =
    arms (λ (x : Refusal). x.number ≡ 0 → passes tag ≡ true) (passes tag) (λ p f. p) (λ p f. absurd (omega arith)) e
all_pass number passes (tag ∷ rest) l e (suc i) h =
    arms (λ (x : Refusal). x.number ≡ 0 → passes (get_or rest i 0) ≡ true) (passes tag)
    (λ p f. all_pass number passes rest l f i (omega arith)) (λ p f. absurd (omega arith)) e

-- and none is refused by a weaker rule, which passes every tag that the first rule passes
pub passing_more : (number : ℕ) (passes more : ℕ → Bool) → 1 ≤ number → ((tag : ℕ) → passes tag ≡ true → more tag ≡ true)
    → (tags : List ℕ) → (first_failing number passes tags).number ≡ 0 → (first_failing number more tags).number ≡ 0
unfolding first_failing
passing_more number passes more l m [] e = refl
passing_more number passes more l m (tag ∷ rest) e =
    arms (λ (x : Refusal). x.number ≡ 0 → (cond (more tag) (first_failing number more rest) (refusal number tag)).number ≡ 0) (passes tag)
    (λ p f. simp (m tag p) (passing_more number passes more l m rest f)) (λ p f. absurd (omega arith)) e

-- a refusal has the given number
pub failing_number : (number : ℕ) (passes : ℕ → Bool) (tags : List ℕ) → (first_failing number passes tags).number ≤ number
unfolding first_failing
failing_number number passes [] = omega arith
failing_number number passes (tag ∷ rest) =
    arms (λ (x : Refusal). x.number ≤ number) (passes tag) (λ p. failing_number number passes rest) (λ p. omega arith)

-- ---- the list of tags from a first tag on
pub tags_from_lem : (k from i : ℕ) → i < k → get_or (tags_from k from) i 0 ≡ i + from
unfolding tags_from
tags_from_lem zero from i h = absurd (omega arith)
tags_from_lem (suc k) from zero h = omega arith
tags_from_lem (suc k) from (suc i) h = tags_from_lem k (from + 1) i (omega arith) ∙ omega arith

pub tags_length : (k from : ℕ) → length (tags_from k from) ≡ k
unfolding tags_from
tags_length zero from = refl
tags_length (suc k) from = ap suc (tags_length k (from + 1))
