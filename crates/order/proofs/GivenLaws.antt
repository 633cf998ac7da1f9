-- What `get` gives of an order tells whether the order has the tag. Assumes nothing.
use Rattle.std.specs.Prelude.{MatchOption}
use Rattle.std.specs.Option.{option_copied}
use Rattle.std.proofs.Common.{Bor, Option, Some, None}
use Rattle.prelude.proofs.Logic.{◌≡◌, ◌∙◌, ap, true, false, cond, List, ℕ, cases}
use Rattle.fields.specs.Values.{Values, get_in}

module _ (v : Values) (tag : ℕ) where
  pub had : (bytes : List ℕ) → Some bytes ≡ get_in v tag → (v.has tag ≡ true) × (bytes ≡ v.value tag)
  had bytes e = cases (v.has tag) (λ t. let w = simp t at e in (t, cc)) (λ t. let w = simp t at e in cc)

  pub lacked : None ≡ get_in v tag → v.has tag ≡ false
  lacked e = cases (v.has tag) (λ t. let w = simp t at e in cc) (λ t. t)

  -- what `map_or` reads
  pub read_or : {T : Type 0} (o : Option (Bor (List ℕ))) (missing r : T) (read : List ℕ → T) → option_copied o ≡ get_in v tag
      → MatchOption o (r ≡ missing) (λ x. r ≡ read x.now) → r ≡ cond (v.has tag) (read (v.value tag)) missing
  read_or None missing r read e m = simp (lacked e) m
  read_or (Some b) missing r read e m = let h = had b.now e in simp h.0 (m ∙ ap read h.1)
