-- The look into a table, and one step of the reading. Assumes nothing.
use Rattle.prelude.proofs.Logic.{◌≡◌, sym, ap, ◌∙◌, List, map, ℕ, ◌+◌, ◌<◌, add-one}
use Rattle.prelude.proofs.Logic.{length, get_or, drop, drop-cons, drop-length, List·getD-map}
use Rattle.std.proofs.Common.{Bor}
use Rattle.sentences.specs.Guess.{longer, place_in}

-- ---- the text behind a place of a table
pub behind : (l : List (Bor (List ℕ))) (n : ℕ) (d : Bor (List ℕ)) → (get_or l n d).now ≡ get_or (map (λ (b : Bor (List ℕ)). b.now) l) n d.now
behind l n d = sym (List·getD-map (λ (b : Bor (List ℕ)). b.now) l n d)

-- ---- the number at the end of bytes
pub place_next : (bytes : List ℕ) (v w i : ℕ) → i < length bytes → w ≡ longer v (get_or bytes i 0)
    → place_in w (drop (i + 1) bytes) ≡ place_in v (drop i bytes)
unfolding place_in
place_next bytes v w i h e = rw (e, add-one i, drop-cons bytes i 0 h)

pub place_end : (bytes : List ℕ) (v i : ℕ) → i ≡ length bytes → place_in v (drop i bytes) ≡ v
unfolding place_in
place_end bytes v i e = rw (ap (λ (k : ℕ). drop k bytes) e ∙ drop-length bytes)
