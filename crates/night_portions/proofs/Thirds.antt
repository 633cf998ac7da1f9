-- Two thirds of d seconds in f64, cut to whole seconds, are between the bounds that whole numbers give: they grow with d, and no faster.
-- Assumes nothing.
use Rattle.prelude.proofs.Logic.{◌≡◌, ap, subst, Bool, false, ⊎_elim, ℕ, ◌+◌, ◌-◌, ◌*◌, ◌/◌, ◌≤◌, ◌<◌, zero-le, le_refl, eq-or-lt_of_le}
use Rattle.prelude.proofs.Logic.{arith, lit<, lit≤}
use Rattle.float64.proofs.Floats.{binary64, round, round_whole, round_mono, Within, round-within, round-signed, whole_size, whole_most}
use Rattle.float64.proofs.Floats.{whole_least}
use Rattle.night_portions.proofs.Steady.{longest, Steady, either}

-- 2.0 / 3.0 is this over 2 ^ 53
abbrev pub two_thirds : ℕ
two_thirds = 6004799503160661

unfoldable pub third : ℕ → ℕ
third d = whole_size (round binary64 false (d * two_thirds) 9007199254740992)

-- at most three quarters above the whole part of 2 * d / 3
pub third_within : (d : ℕ) (s : Bool) → d ≤ longest → Within (round binary64 s (d * two_thirds) 9007199254740992) (4 * (2 * d / 3) + 3) 4
third_within d s h = round-within (d * two_thirds) 9007199254740992 (4 * (2 * d / 3) + 3) 2 (lit< tt) (omega arith) (lit≤ tt) (omega arith) s

third_most : (d : ℕ) → d ≤ longest → 3 * third d ≤ 2 * d
unfolding third
third_most d h =
    let y = round binary64 false (d * two_thirds) 9007199254740992 in
    let l = whole_most y (4 * (2 * d / 3) + 3) 4 (third_within d false h) in
    omega arith

third_least : (d m : ℕ) → d ≤ longest → 3 * m + 1 ≤ 2 * d → m ≤ third d
unfolding third
third_least d m h g =
    let y = round binary64 false (d * two_thirds) 9007199254740992 in
    whole_least (round binary64 false m 1) y m (4 * (2 * d / 3) + 3) 4 (round_whole binary64 false m (omega arith))
    (round_mono binary64 m 1 (d * two_thirds) 9007199254740992 (lit< tt) (lit< tt) (omega arith))
    (round-signed (d * two_thirds) 9007199254740992 false) (third_within d false h)

grows : (d e : ℕ) → e ≤ longest → d ≤ e → third d ≤ third e
grows d e h l =
    ⊎_elim (λ (q : d ≡ e). subst (λ (z : ℕ). third d ≤ third z) q (le_refl (third d))) (λ (q : d < e). let u = third_most d (omega arith) in
    third_least e (third d) h (omega arith)) (eq-or-lt_of_le l)

slow : (d e : ℕ) → e ≤ longest → d ≤ e → third e ≤ third d + (e - d)
slow d e h l =
    ⊎_elim
    (λ (q : d ≡ e). let r = ap third q in omega arith)
    (λ (q : d < e).
    let u = third_most e h in
    ⊎_elim (λ (w : third e ≤ e - d). omega arith) (λ (w : e - d ≤ third e). let v =
    third_least d (third e - (e - d)) (omega arith) (omega arith) in omega arith) (either (third e) (e - d)))
    (eq-or-lt_of_le l)

pub third_steady : Steady third
third_steady = record { none = omega (arith, third_most 0 zero-le); grows = grows; slow = slow }
