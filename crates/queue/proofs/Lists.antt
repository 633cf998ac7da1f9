-- Parts of lists, padded with zeros: and a number looked for in a list. Assumes nothing.
use Rattle.prelude.proofs.Logic.{◌≡◌, refl, sym, ◌∙◌, List, [], ◌∷◌, ◌++◌, append_assoc, ℕ, suc, ◌-◌, ◌<◌, arith}
use Rattle.prelude.proofs.Logic.{length, set, replicate, length-append}
use Rattle.prelude.proofs.Logic.{set-append_seam}
use Rattle.std.proofs.Common.{nat_eq}
use Rattle.std.specs.List.{list_any}
use Rattle.queue.specs.Arrays.{padded}
use Rattle.prelude.specs.Lists.{listed}

-- the first of the zeros becomes an element
pub padded_more : (l : List ℕ) (v : ℕ) → length l < 16 → set (padded l) (length l) v ≡ padded (l ++ (v ∷ []))
padded_more l v h =
    let e : 16 - length l ≡ suc (15 - length l) = omega arith in
    let f : 16 - length (l ++ (v ∷ [])) ≡ 15 - length l = omega (arith, length-append l (v ∷ [])) in
    rw (e, f) (set-append_seam l 0 (replicate (15 - length l) 0) v ∙ sym (append_assoc l (v ∷ []) (replicate (15 - length l) 0)))

-- `contains` looks for a number as `listed` does
pub any_listed : (id : ℕ) (l : List ℕ) → list_any (λ x. nat_eq x id) l ≡ listed l id
unfolding listed
any_listed id [] = refl
any_listed id (x ∷ l) = rw (any_listed id l)
