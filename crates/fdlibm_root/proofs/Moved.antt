-- A subnormal significand t, moved up by k places to d, so that d has 53 digits. Assumes nothing.
use Rattle.prelude.proofs.Logic.{◌≡◌, sym, ap, subst, ◌∙◌, ℕ, suc, ◌+◌, ◌-◌, ◌*◌, ◌%◌, ◌^◌, ◌≤◌, ◌<◌, mul_assoc, mul_comm, mul-le-mul_right}
use Rattle.prelude.proofs.Logic.{pow-suc, pow-add, pow_mono, pow_pos, mod-eq_of_lt, arith}
use Rattle.std.proofs.lemmas.Nat.{leading_top}
use Rattle.std.specs.Int.Count.{count_leading_zeros}

pub record Shifted53 (t d k : ℕ) : Type 0 where
  pub is : d ≡ t * 2 ^ k
  pub least : 2 ^ 52 ≤ d
  pub small : d < 2 ^ 53
  pub places : k ≤ 52

-- the leading digit of t is that of 2 ^ j
up : (t j k : ℕ) → k + j ≡ 52 → 2 ^ j ≤ t → t < 2 ^ suc j → Shifted53 t (t * 2 ^ k) k
up t j k e lo hi =
    let w = 2 ^ k in let p : 0 < w = pow_pos k in
    let one : 2 ^ j * w ≡ 2 ^ 52 = mul_comm (2 ^ j) w ∙ sym (pow-add 2 k j) ∙ ap (λ (i : ℕ). 2 ^ i) e in
    let a : 2 ^ j * w ≤ t * w = mul-le-mul_right w lo in
    let top : suc t ≤ 2 ^ j * 2 = rw (pow-suc 2 j) at hi in
    let b : suc t * w ≤ 2 ^ j * 2 * w = mul-le-mul_right w top in
    record { is = omega arith; least = omega arith; small = omega arith; places = omega arith }

pub moved : (t : ℕ) → 0 < t → t < 2 ^ 52 → let z = count_leading_zeros 64 t in
    (11 ≤ z) × Shifted53 t (t * 2 ^ (z - 11) % 2 ^ 64) (z - 11)
moved t h l =
    let z = count_leading_zeros 64 t in
    let top = leading_top 64 t h (omega arith) in
    let j : ℕ = top.0 in
    let short : 52 ≤ j → ⊥ = λ g. (let far : 2 ^ 52 ≤ 2 ^ j = pow_mono g in omega (arith, top.2)) in
    let m = up t j (z - 11) (omega (arith, top.1, short)) top.2 top.3 in
    let e : t * 2 ^ (z - 11) % 2 ^ 64 ≡ t * 2 ^ (z - 11) = mod-eq_of_lt (omega (arith, m.small)) in
    (omega (arith, top.1, short), subst (λ (d : ℕ). Shifted53 t d (z - 11)) (sym e) m)

pub moved_same : (t d k : ℕ) → Shifted53 t d k → d * 2 ^ (1024 - k - 898) ≡ t * 2 ^ 126
moved_same t d k moved =
    let exponent : k + (1024 - k - 898) ≡ 126 = omega (arith, moved.places) in
    ap (λ (z : ℕ). z * 2 ^ (1024 - k - 898)) moved.is
    ∙ mul_assoc t (2 ^ k) (2 ^ (1024 - k - 898))
    ∙ ap (λ (z : ℕ). t * z) (sym (pow-add 2 k (1024 - k - 898)) ∙ ap (λ (z : ℕ). 2 ^ z) exponent)
