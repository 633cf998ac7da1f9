-- A text is printable if and only if each of its bytes is.
use Rattle.std.specs.Prelude.{IsTrue, ◌↔◌, EachIndex}
use Rattle.prelude.proofs.Logic.{◌≡◌, Bool, true, ◌&&◌, List, [], ◌∷◌, ℕ, zero, suc, ◌<◌, leb, length, get_or, arith, cases, both, rules}
use Rattle.text.specs.Text.{printable}
use Rattle.order.proofs.ranges.text_fits.Goals as goal

abbrev fits : ℕ → Bool
fits b = leb 32 b && leb b 126

each : (s : List ℕ) → printable s ≡ true → (k : ℕ) → k < length s → fits (get_or s k 0) ≡ true
unfolding printable
each [] e k l = absurd (omega arith)
each (b ∷ bs) e zero l = (both (fits b) (printable bs) e).0
each (b ∷ bs) e (suc k) l = each bs (both (fits b) (printable bs) e).1 k (omega arith)

all_of : (s : List ℕ) → ((k : ℕ) → k < length s → fits (get_or s k 0) ≡ true) → printable s ≡ true
unfolding printable
all_of [] f = cc
all_of (b ∷ bs) f = simp (f 0 (omega arith), all_of bs (λ k l. f (suc k) (omega arith)))

same : (r : Bool) (s : List ℕ) → IsTrue r ↔ EachIndex s (λ k. fits (get_or s k 0) ≡ true) → r ≡ printable s
same r s e = cases r (λ t. let p = all_of s (e.0 t) in cc) (λ t. cases (printable s) (λ p. let u = e.1 (each s p) in cc) (λ p. cc))

pub returns : goal.returns
returns c = same c.all.result c.args.bytes.now (search rules)
