-- A value in a range passes the comparisons with the range's two ends. Assumes nothing.
use Rattle.prelude.proofs.Logic.{◌≡◌, refl, true, false, ◌&&◌, ◌||◌, true≢false, false≢true, ℕ, ◌+◌, ◌*◌, ◌≤◌, arith, ltb, eqb, lit<}
use Rattle.prelude.proofs.Logic.{leb-true, ltb-false, eq-eqb, cases}
use Rattle.float64.proofs.Floats.{Float, nan, inf, fin, binary64, up, down, neg, le, round, HasValue, round_whole, down_pos, transfer, dec}
use Rattle.float64.proofs.Floats.{Inside}
use Rattle.map_form.specs.Hundredths.{at_most}

-- -a ≤ b
opposite : (a b : ℕ) → (ltb 0 (a + b) || (eqb a b && eqb a 0)) ≡ true
opposite a b =
    cases (ltb 0 (a + b)) (λ l. rw l) (λ l. let k = ltb-false 0 (a + b) l in rw (l, eq-eqb a b (omega arith), eq-eqb a 0 (omega arith)))

-- a ≤ b, and -b ≤ -a
upright : (a b : ℕ) → a ≤ b → ((ltb a b || (eqb a b && true)) ≡ true) × ((ltb a b || (eqb b a && true)) ≡ true)
upright a b h =
    cases (ltb a b) (λ l. rw l (refl, refl))
    (λ l. let k = ltb-false a b l in rw (l, eq-eqb a b (omega arith), eq-eqb b a (omega arith)) (refl, refl))

by_value : (x h : Float) (n : ℕ) → HasValue h false n 1 → at_most n x ≡ true → Inside (neg h) h x
unfolding le neg at_most
by_value nan h n v r = absurd (false≢true r)
by_value (inf s) h n v r = absurd (false≢true r)
by_value (fin s m e) nan n v r = absurd v
by_value (fin s m e) (inf t) n v r = absurd v
by_value (fin s m e) (fin true k d) n v r = absurd (true≢false v.0)
by_value (fin false m e) (fin false k d) n v r = (
  opposite (k * up d * down e) (m * up e * down d),
  (upright (m * up e * down d) (k * up d * down e) (transfer (m * up e) (k * up d) (down e) (down d) (m * up e) n (down e) 1 (down_pos e)
      (lit< tt) refl v.1 (omega (arith, leb-true (m * up e) (n * down e) r)))).0,
)
by_value (fin true m e) (fin false k d) n v r = (
  (upright (m * up e * down d) (k * up d * down e) (transfer (m * up e) (k * up d) (down e) (down d) (m * up e) n (down e) 1 (down_pos e)
      (lit< tt) refl v.1 (omega (arith, leb-true (m * up e) (n * down e) r)))).1,
  opposite (m * up e * down d) (k * up d * down e),
)

-- from -n to n
pub in_limits : (x : Float) (n : ℕ) → n ≤ 180 → at_most n x ≡ true → Inside (neg (dec n 0)) (dec n 0) x
unfolding dec
in_limits x n small r = by_value x (round binary64 false n 1) n (round_whole binary64 false n (omega arith)) r
