-- One rounding: a fraction of at most 256 rounds to a finite float of the same sign within 2 ^ -44 of it. (An ulp there is 2 ^ -45; half of
-- it is the true bound.) So the whole number nearest to 360,000 times the rounding of n / 360,000 is n. Assumes nothing.
use Rattle.prelude.proofs.Logic.{◌≡◌, ap, Bool, ℕ, suc, ◌+◌, ◌-◌, ◌*◌, ◌/◌, ◌%◌, ◌^◌, ◌≤◌, ◌<◌, compare, lt_of_le_of_lt}
use Rattle.prelude.proofs.Logic.{mul-le-mul_right, mul-le-mul_left, le_of_mul-le-mul_right, lt_of_mul-lt-mul_right, mul-pos}
use Rattle.prelude.proofs.Logic.{div-mul-le_self, lt-div-mul-add, div-lt_iff_lt-mul, div-eq_of_lt-le, mul_assoc, mul_comm, mul_left_comm}
use Rattle.prelude.proofs.Logic.{mul-add, add-mul, arith, lit<, pow_pos, pow_mono}
use Rattle.float64.proofs.Floats.{Float, nan, inf, fin, binary64, up, down, size, round, size-le, nearest-le, round_is, down_pos, closest}
use Rattle.float64.proofs.Floats.{nearest-ge, drop, kept, HasValue, units_val, grid, overflow}
use Rattle.map_form.specs.Hundredths.{in_degree}
use Rattle.map_form.specs.Written.{nearest_to, hundredths_of}

-- `omega` multiplies out up to four factors. For more, these rules first bring both sides to one form.
ruleset ring = (mul_assoc, mul_comm, mul_left_comm, mul-add, add-mul)

-- ---- the nearest whole number to a / b is at most 1 away
around : (a b w n : ℕ) → w * b ≤ a → a < w * b + b → w ≤ n → n ≤ suc w → (n * b ≤ a + b) × (a ≤ n * b + b)
around a b w n l h p q = omega (arith, mul-le-mul_right b p, mul-le-mul_right b q)

closest_near : (a b : ℕ) → 0 < b → (closest a b * b ≤ a + b) × (a ≤ closest a b * b + b)
closest_near a b B =
    around a b (a / b) (closest a b) (div-mul-le_self a b) (lt-div-mul-add B) (nearest-ge (a / b) (compare (a % b * 2) b))
    (nearest-le (a / b) (compare (a % b * 2) b))

-- ---- in units of the smallest float: for a / c up to 256, at most 2 ^ 1030 units away
few : (z : ℕ) → z ≤ 1083 → z - 53 ≤ 1030
few z h = omega arith

drop_le : (a c : ℕ) → 0 < c → a ≤ 256 * c → drop 53 (a * 2 ^ 1074) c ≤ 1030
drop_le a c C h =
    few (size (a * 2 ^ 1074 / c)) (size-le (a * 2 ^ 1074 / c) 1083 ((div-lt_iff_lt-mul C).1 (bound (2 ^ 1074) (2 ^ 1083) (lit< tt))))
  where
    bound : (L M : ℕ) → 256 * L < M → a * L < M * c
    bound L M l = omega (arith, mul-le-mul_right L h, mul-le-mul_right c l)

-- q times b = c * P units, where P = 2 ^ k is at most K
spread : (q n c P K : ℕ) → P ≤ K → (q * (c * P) ≤ n + c * P) × (n ≤ q * (c * P) + c * P) → (q * P * c ≤ n + c * K) × (n ≤ q * P * c + c * K)
spread q n c P K l h = omega (arith, mul-le-mul_left c l)

grid_near : (a c : ℕ) → 0 < c → a ≤ 256 * c → (grid binary64 a c * c ≤ a * 2 ^ 1074 + c * 2 ^ 1030)
    × (a * 2 ^ 1074 ≤ grid binary64 a c * c + c * 2 ^ 1030)
grid_near a c C h =
    let k = drop 53 (a * 2 ^ 1074) c in
    spread (kept 53 (a * 2 ^ 1074) c) (a * 2 ^ 1074) c (2 ^ k) (2 ^ 1030) (pow_mono (drop_le a c C h))
    (closest_near (a * 2 ^ 1074) (c * 2 ^ k) (mul-pos C (pow_pos k)))

under : (G a c L K M : ℕ) → 0 < c → a ≤ 256 * c → G * c ≤ a * L + c * K → 256 * L + K < M → G < M
under G a c L K M C h g l = lt_of_le_of_lt (le_of_mul-le-mul_right {k = c} (omega (arith, mul-le-mul_right L h)) C) l

-- the rounding's value in units
round_value : (s : Bool) (a c : ℕ) → 0 < c → a ≤ 256 * c → HasValue (round binary64 s a c) s (grid binary64 a c) (2 ^ 1074)
round_value s a c C h = rw (round_is binary64 s a c) (units_val binary64 s (kept 53 (a * 2 ^ 1074) c) (drop 53 (a * 2 ^ 1074) c)
    (under (grid binary64 a c) a c (2 ^ 1074) (2 ^ 1030) (overflow binary64) C h (grid_near a c C h).0 (lit< tt)))

-- ---- the nearest count
-- A / D is the float G / L, and 1 / L is K * 2 * c times smaller than 1
back : (A D G L K n c : ℕ) → 0 < L → 0 < D → A * L ≡ G * D → G * c ≤ n * L + c * K → n * L ≤ G * c + c * K → 2 * (c * K) < L
    → nearest_to (A * c) D ≡ n
back A D G L K n c P Q e h l r =
    div-eq_of_lt-le (2 * D)
    (le_of_mul-le-mul_right {k = L} (simp ring (omega
    (arith, simp ring at (mul-le-mul_right D l), simp ring at (mul-le-mul_right D r), simp ring at (ap (λ (z : ℕ). z * c) e)))) P)
    (lt_of_mul-lt-mul_right L (simp ring (omega
    (arith, Q, simp ring at (mul-le-mul_right D h), simp ring at (mul-le-mul_right D r), simp ring at (ap (λ (z : ℕ). z * c) e)))))

pub round_back : (s : Bool) (n : ℕ) → n ≤ 256 * in_degree → hundredths_of (round binary64 s n in_degree) ≡ n
unfolding hundredths_of
round_back s n h = go (round binary64 s n in_degree) (round_value s n in_degree (lit< tt) h)
  where
    g : (grid binary64 n in_degree * in_degree ≤ n * 2 ^ 1074 + in_degree * 2 ^ 1030)
        × (n * 2 ^ 1074 ≤ grid binary64 n in_degree * in_degree + in_degree * 2 ^ 1030)
    g = grid_near n in_degree (lit< tt) h

    go : (x : Float) → HasValue x s (grid binary64 n in_degree) (2 ^ 1074) → hundredths_of x ≡ n
    go nan v = absurd v
    go (inf t) v = absurd v
    go (fin t m e) v =
        back (m * up e) (down e) (grid binary64 n in_degree) (2 ^ 1074) (2 ^ 1030) n in_degree (pow_pos 1074) (down_pos e) v.1 g.0
        g.1 (lit< tt)
