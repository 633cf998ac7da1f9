-- The root of d * 2 ^ (a - 2098), for a d of 53 digits: the exponent is halved, and d doubled first if it is odd.
use Rattle.prelude.proofs.Logic.{◌≡◌, refl, ap, ◌∙◌, ℕ, zero, suc, ◌+◌, ◌-◌, ◌*◌, ◌/◌, ◌%◌, ◌^◌, ◌≤◌, ◌<◌, mul-le-mul, arith, pow-add}
use Rattle.prelude.proofs.Ieee.{binary64, of_bits}
use Rattle.fdlibm_root.specs.Root.{rounded_root}
use Rattle.fdlibm_root.specs.Near.{NearRoot}
use Rattle.fdlibm_root.proofs.Sticky.{rounded_root_lem, near_hi}

one_more : (o : ℕ) → o < 2 → 2 ^ o ≡ 1 + o
one_more zero h = refl
one_more (suc zero) h = refl
one_more (suc (suc o)) h = absurd (large o h)
  where
    large : (o : ℕ) → suc (suc o) < 2 → ⊥
    large o h = omega arith

pub halved : (d a i : ℕ) → 952 ≤ a → i ≡ a / 2 - 476 → d * 2 ^ (a - 898) ≡ 4 * (d * (1 + a % 2) * 2 ^ 52) * (2 ^ i * 2 ^ i)
halved d a i h e =
    let exponent : a - 898 ≡ a % 2 + (54 + (i + i)) = omega arith in
    let lowest : 2 ^ (a % 2) ≡ 1 + a % 2 = one_more (a % 2) (omega arith) in
    rw (exponent, pow-add 2 (a % 2) (54 + (i + i)), lowest, pow-add 2 54 (i + i), pow-add 2 i i)
    (spread d (1 + a % 2) (2 ^ i * 2 ^ i))
  where
    spread : (d o w : ℕ) → d * (o * (2 ^ 54 * w)) ≡ 4 * (d * o * 2 ^ 52) * w
    spread d o w = omega arith

pub doubled : (d o : ℕ) → d < 2 ^ 53 → 1 + o ≤ 2 → d * (1 + o) ≤ 18014398509481982
doubled d o h g = let product : d * (1 + o) ≤ 9007199254740991 * 2 = mul-le-mul (cut d h) g in omega arith
  where
    cut : (d : ℕ) → d < 2 ^ 53 → d ≤ 9007199254740991
    cut d h = omega arith

pub scaled_root : (d a s : ℕ) → 2 ^ 52 ≤ d → d < 2 ^ 53 → 972 ≤ a → a < 3900 → NearRoot (d * (1 + a % 2)) s
    → rounded_root (d * 2 ^ (a - 898)) ≡ of_bits binary64 ((a / 2 - 1) * 2 ^ 52 + s)
scaled_root d a s d-lo d-hi a-lo a-hi near =
    let m = d * (1 + a % 2) in let i = a / 2 - 476 in let same : i + 475 ≡ a / 2 - 1 = omega arith in
    rounded_root_lem m s i (d * 2 ^ (a - 898)) near (omega arith) (doubled d (a % 2) d-hi (omega arith)) (omega arith)
    (halved d a i (omega arith) refl)
    ∙ ap (λ (z : ℕ). of_bits binary64 (z * 2 ^ 52 + s)) same

pub scaled_fits : (d a s : ℕ) → d < 2 ^ 53 → a < 3900 → NearRoot (d * (1 + a % 2)) s → (a / 2 - 1) * 2 ^ 52 + s < 0x7ff0_0000_0000_0000
scaled_fits d a s d-hi a-hi near =
    let least : s < 2 ^ 53 = near_hi (d * (1 + a % 2)) s near (doubled d (a % 2) d-hi (omega arith)) in
    omega arith
