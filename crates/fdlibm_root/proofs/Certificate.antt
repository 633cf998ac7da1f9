-- The whole-number arithmetic that decides on a candidate s.
use Rattle.prelude.proofs.Logic.{◌≡◌, refl, ap, Bool, true, false, ℕ, ◌+◌, ◌-◌, ◌*◌, ◌/◌, ◌%◌, ◌^◌, ◌≤◌, ◌<◌, div-add-mod'}
use Rattle.prelude.proofs.Logic.{arith, leb, ltb, leb-true, leb-false, ltb-true, ltb-false, bool_byte}
use Rattle.fdlibm_root.specs.Near.{NearRoot}

-- ---- what `residue` returns: `over` is e * 2 ^ 25 + 2 ^ 28 and `under` is 2 * a * b + k, where b * b is k * 2 ^ 27 + l
sum : (m s a b e j k l z : ℕ) → a * 2 ^ 27 + b ≡ s → 4 * a * a + e ≡ m → k * 2 ^ 27 + l ≡ b * b → j + (2 * a * b + k) ≡ e * 2 ^ 25 + 2 ^ 28
    → z + l ≡ j * 2 ^ 27
    → z + s * s ≡ 2 ^ 55 + m * 2 ^ 52
sum m s a b e j k l z parts top low middle is =
    let square : (a * 2 ^ 27 + b) * (a * 2 ^ 27 + b) ≡ s * s = ap (λ (x : ℕ). x * x) parts in
    omega arith

pub residue-is : (m s e : ℕ) → let a = s / 2 ^ 27 in let b = s % 2 ^ 27 in let over = e * 2 ^ 25 + 2 ^ 28 in
    let under = 2 * a * b + b * b / 2 ^ 27 in
    4 * a * a ≤ m → e ≡ m - 4 * a * a → under < over → (over - under) * 2 ^ 27 - b * b % 2 ^ 27 + s * s ≡ 2 ^ 55 + m * 2 ^ 52
residue-is m s e top is less =
    let a = s / 2 ^ 27 in let b = s % 2 ^ 27 in let over = e * 2 ^ 25 + 2 ^ 28 in
    let under = 2 * a * b + b * b / 2 ^ 27 in let j = over - under in
    sum m s a b e j (b * b / 2 ^ 27) (b * b % 2 ^ 27) (j * 2 ^ 27 - b * b % 2 ^ 27)
    (div-add-mod' s (2 ^ 27)) (omega arith) (div-add-mod' (b * b) (2 ^ 27)) (back under over less) (rest j (b * b) (some under over less))
  where
    back : (u o : ℕ) → u < o → o - u + u ≡ o
    back u o h = omega arith

    some : (u o : ℕ) → u < o → 0 < o - u
    some u o h = omega arith

    rest : (j c : ℕ) → 0 < j → j * 2 ^ 27 - c % 2 ^ 27 + c % 2 ^ 27 ≡ j * 2 ^ 27
    rest j c h = omega arith

-- ---- s or a neighbour is the nearest, by the size of the residue z
module _ (m s z : ℕ) (is : z + s * s ≡ 2 ^ 55 + m * 2 ^ 52) (lo : 2 ^ 55 + 2 < z + 3 * s) (hi : z ≤ 2 ^ 55 + 3 * s + 2) where
  below : (t : ℕ) → t + 1 ≡ s → z + s ≤ 2 ^ 55 → NearRoot m t
  below t less far =
      let square : (t + 1) * (t + 1) ≡ s * s = ap (λ (x : ℕ). x * x) less in
      record { low = omega arith; high = omega arith }

  above : (t : ℕ) → t ≡ s + 1 → 2 ^ 55 + s < z → NearRoot m t
  above t more far =
      let square : t * t ≡ (s + 1) * (s + 1) = ap (λ (x : ℕ). x * x) more in
      record { low = omega arith; high = omega arith }

  same : (t : ℕ) → t ≡ s → 2 ^ 55 < z + s → z ≤ 2 ^ 55 + s → NearRoot m t
  same t e p q = rw e (record { low = omega arith; high = omega arith })

  pub chosen : NearRoot m (s + bool_byte (ltb (2 ^ 55 + s) z) - bool_byte (leb (z + s) (2 ^ 55)))
  chosen = go (ltb (2 ^ 55 + s) z) (leb (z + s) (2 ^ 55)) refl refl
    where
      go : (up down : Bool) → ltb (2 ^ 55 + s) z ≡ up → leb (z + s) (2 ^ 55) ≡ down → NearRoot m (s + bool_byte up - bool_byte down)
      go true true p q = absurd (clash (ltb-true (2 ^ 55 + s) z p) (leb-true (z + s) (2 ^ 55) q))
        where
          clash : 2 ^ 55 + s < z → z + s ≤ 2 ^ 55 → ⊥
          clash g h = omega arith
      go true false p q = above (s + 1 - 0) (omega arith) (ltb-true (2 ^ 55 + s) z p)
      go false true p q = below (s + 0 - 1) (omega arith) (leb-true (z + s) (2 ^ 55) q)
      go false false p q = same (s + 0 - 0) (omega arith) (leb-false (z + s) (2 ^ 55) q) (ltb-false (2 ^ 55 + s) z p)
