-- The invariant of the digit loop, what follows from it at the end, and how the last digit rounds.
use Rattle.prelude.proofs.Logic.{◌≡◌, refl, ap, ◌⊎◌, inl, inr, ℕ, zero, suc, ◌+◌, ◌-◌, ◌*◌, ◌/◌, ◌%◌, ◌^◌, ◌≤◌, ◌<◌, lt_of_lt_of_le}
use Rattle.prelude.proofs.Logic.{pow-le-pow_right, pow-suc, add-one, arith, lit<}
use Rattle.fdlibm_root.specs.Root.{Root}
use Rattle.fdlibm_root.specs.Near.{NearRoot}

-- after i turns: the digits of m * 4 ^ i that were taken are q * q + left, and those that are still to come are rest
pub record Kept (m q left rest i : ℕ) : Type 0 where
  pub turns : i ≤ 54
  pub digits : q < 2 ^ i
  pub small : q < 2 ^ 54
  pub whole : left ≤ q * 2
  pub room : rest < 2 ^ 54
  pub taken : (q * q + left) * 2 ^ 54 + rest ≡ m * 4 ^ i

fits : (i q : ℕ) → i ≤ 54 → q < 2 ^ i → q < 2 ^ 54
fits i q h l = lt_of_lt_of_le l (pow-le-pow_right (lit< tt) h)

-- p is `left` with two more digits of m. The next digit is 1 if p is at least 4 * q + 1, else 0
one : (m q left rest w p : ℕ) → (q * q + left) * 2 ^ 54 + rest ≡ m * w → p ≡ left * 4 + rest / 2 ^ 52 → q * 4 + 1 ≤ p
    → ((q * 2 + 1) * (q * 2 + 1) + (p - (q * 4 + 1))) * 2 ^ 54 + rest % 2 ^ 52 * 4 ≡ m * (w * 4)
one m q left rest w p e is h = omega arith

none : (m q left rest w p : ℕ) → (q * q + left) * 2 ^ 54 + rest ≡ m * w → p ≡ left * 4 + rest / 2 ^ 52
    → (q * 2 * (q * 2) + p) * 2 ^ 54 + rest % 2 ^ 52 * 4 ≡ m * (w * 4)
none m q left rest w p e is = omega arith

module _ (m q left rest i p : ℕ) (k : Kept m q left rest i) (more : i < 54) (is : p ≡ left * 4 + rest / 2 ^ 52) where
  pub next_one : q * 4 + 1 ≤ p → Kept m (q * 2 + 1) (p - (q * 4 + 1)) (rest % 2 ^ 52 * 4) (i + 1)
  next_one h =
      let d : q * 2 + 1 < 2 ^ (i + 1) = rw (add-one i, pow-suc 2 i) (omega (arith, k.digits)) in
      record {
        turns = omega arith;
        digits = d;
        small = fits (i + 1) (q * 2 + 1) (omega arith) d;
        whole = omega (arith, k.whole, k.room);
        room = omega arith;
        taken = rw (add-one i, pow-suc 4 i) (one m q left rest (4 ^ i) p k.taken is h);
      }

  pub next-none : p < q * 4 + 1 → Kept m (q * 2) p (rest % 2 ^ 52 * 4) (i + 1)
  next-none h =
      let d : q * 2 < 2 ^ (i + 1) = rw (add-one i, pow-suc 2 i) (omega (arith, k.digits)) in
      record {
        turns = omega arith;
        digits = d;
        small = fits (i + 1) (q * 2) (omega arith) d;
        whole = omega arith;
        room = omega arith;
        taken = rw (add-one i, pow-suc 4 i) (none m q left rest (4 ^ i) p k.taken is);
      }

pub last : (m q left rest i : ℕ) → Kept m q left rest i → 54 ≤ i → Root (m * 2 ^ 54) q
last m q left rest i k h =
    let e : i ≡ 54 = omega (arith, k.turns) in let all : (q * q + left) * 2 ^ 54 + rest ≡ m * 4 ^ 54 = rw e at k.taken in
    let n : q * q + left ≡ m * 2 ^ 54 = omega (arith, k.room) in
    record { within = omega arith; above = omega (arith, k.whole) }

-- ---- half of the root of 4 * M, rounded. There is no tie: (2 s - 1)² and (2 s + 1)² are odd, so neither is 4 * M
halves : (M q s : ℕ) → q * q ≤ 4 * M → 4 * M < (q + 1) * (q + 1) → 0 < s → (q ≡ 2 * s) ⊎ (q + 1 ≡ 2 * s) → (s * s < M + s) × (M ≤ s * s + s)
halves M q s lo hi h (inl e) =
    let squares : q * q ≡ 2 * s * (2 * s) = ap (λ (z : ℕ). z * z) e in
    (omega arith, omega arith)
halves M q s lo hi h (inr e) =
    let squares : (q + 1) * (q + 1) ≡ 2 * s * (2 * s) = ap (λ (z : ℕ). z * z) e in
    (omega arith, omega arith)

some : (n q : ℕ) → 0 < n → n < (q + 1) * (q + 1) → 0 < q
some n zero h hi = omega arith
some n (suc q) h hi = omega arith

even_or_odd : (q s r : ℕ) → s ≡ (q + 1) / 2 → (q + 1) % 2 ≡ r → (q ≡ 2 * s) ⊎ (q + 1 ≡ 2 * s)
even_or_odd q s zero e h = inr (omega arith)
even_or_odd q s (suc r) e h = inl (omega arith)

pub rounded : (m q s : ℕ) → 0 < m → Root (m * 2 ^ 54) q → s ≡ (q + 1) / 2 → NearRoot m s
rounded m q s h root e =
    let least : 0 < q = some (m * 2 ^ 54) q (omega arith) root.above in
    let bounds = halves (m * 2 ^ 52) q s (omega (arith, root.within)) (omega (arith, root.above)) (omega arith)
    (even_or_odd q s ((q + 1) % 2) e refl) in
    record { low = bounds.0; high = bounds.1 }
