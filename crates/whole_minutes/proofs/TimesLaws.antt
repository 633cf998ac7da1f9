-- Laws of the definitions of `Times`: what rounding and adjusting keep, and when nothing saturates. Assumes nothing.
use Rattle.prelude.proofs.Logic.{◌≡◌, refl, sym, ap, ◌∙◌, cond, ℕ, ◌+◌, ◌*◌, ◌/◌, ◌^◌, ◌≤◌, ◌<◌, arith, ltb, lit<, ℤ, pos, negsuc, ◌+ℤ◌}
use Rattle.prelude.proofs.Logic.{◌*ℤ◌, +ℤ_idr, +ℤ_assoc, +ℤ_comm, ltb-true, ltb-false, lt-ltb, w64, SFits, cases, either}
use Rattle.integers.proofs.Integers.{P, N, Between, Near, same, sum, difference, times, floor_quot, Floored, floored, ◌≼◌, to_not_lt, range}
use Rattle.integers.proofs.Integers.{sum_between, product_between, shifted_between, Held, held_fits}
use Rattle.models.specs.declared.rounding.Rounding.{Rounding}
use Rattle.models.specs.declared.rounding.Rounding.TheVariants.{Nearest, Up, None}
use Rattle.integers.specs.Ends.{least64, most64}
use Rattle.whole_minutes.specs.Times.{sat_of, second_of, shift_of, rounded_of, adjusted_of}

-- an i64 holds every integer between the ends of its range
pub between : (z : ℤ) → least64 ≼ z → z ≼ most64 → SFits w64 z
between (pos n) l h = record { sfits = omega arith }
between (negsuc n) l h = record { sfits = omega arith }

-- nothing saturates in an i64's range
pub sat_in : (z : ℤ) → SFits w64 z → sat_of z ≡ z
unfolding sat_of
sat_in z h = let r = range w64 z h in rw (to_not_lt most64 z (omega arith), to_not_lt z least64 (omega arith))

minute : (t : ℤ) → Floored t 60 (floor_quot t 60) (second_of t)
minute t = floored t 60 (lit< tt)

-- the second is the one s below 60 for which t = 60 * m + s
second_unique : (t m : ℤ) (s : ℕ) → Floored t 60 m s → second_of t ≡ s
second_unique t m s h = let k = minute t in omega arith

second_adjusted : (t k : ℤ) → second_of (adjusted_of t k) ≡ second_of t
unfolding adjusted_of
second_adjusted t k =
    let a = minute t in
    let p = times k 60 in
    let q = sum t (k *ℤ pos 60) in
    let r = sum (floor_quot t 60) k in
    second_unique (t +ℤ k *ℤ pos 60) (floor_quot t 60 +ℤ k) (second_of t) (record { balance = omega arith; below = omega arith })

-- rounding commutes with whole minutes: rounded_of r (t + 60 * k) is rounded_of r t + 60 * k
pub rounded_adjusted : (r : Rounding) (t k : ℤ) → rounded_of r (adjusted_of t k) ≡ adjusted_of (rounded_of r t) k
unfolding rounded_of adjusted_of
rounded_adjusted r t k =
    let m = k *ℤ pos 60 in
    let d = shift_of r (second_of t) in
    ap (λ (s : ℕ). t +ℤ m +ℤ shift_of r s) (second_adjusted t k) ∙ +ℤ_assoc t m d ∙ ap (λ (z : ℤ). t +ℤ z) (+ℤ_comm m d)
    ∙ sym (+ℤ_assoc t d m)

-- how many seconds after the start of its minute a time at second s is after it is rounded
height_of : Rounding → ℕ → ℕ
height_of Nearest s = cond (ltb s 30) 0 60
height_of Up s = 60
height_of None s = s

height : (r : Rounding) (s : ℕ) → P (shift_of r s) + s ≡ N (shift_of r s) + height_of r s
unfolding shift_of height_of
height Nearest s =
    cases (ltb s 30) (λ e. let d = difference (pos 0) (pos s) in rw e (omega (arith, d.0, d.1)))
    (λ e. let d = difference (pos 60) (pos s) in rw e (omega (arith, d.0, d.1)))
height Up s = let d = difference (pos 60) (pos s) in omega (arith, d.0, d.1)
height None s = omega arith

height_mono : (r : Rounding) (s u : ℕ) → s ≤ u → height_of r s ≤ height_of r u
unfolding height_of
height_mono Nearest s u h =
    cases (ltb u 30) (λ q. rw (q, lt-ltb s 30 (omega (arith, ltb-true u 30 q))) (omega arith))
    (λ q. rw q (either (λ k. k ≤ 60) (ltb s 30) (omega arith) (omega arith)))
height_mono Up s u h = omega arith
height_mono None s u h = h

height_most : (r : Rounding) (s : ℕ) → s < 60 → height_of r s ≤ 60
unfolding height_of
height_most Nearest s h = either (λ k. k ≤ 60) (ltb s 30) (omega arith) (omega arith)
height_most Up s h = omega arith
height_most None s h = omega arith

-- x is h seconds after the start of t's minute
abbrev Above : ℤ → ℤ → ℕ → Type 0
Above t x h = P x + N (floor_quot t 60) * 60 ≡ N x + (P (floor_quot t 60) * 60 + h)

rounded : (r : Rounding) (t : ℤ) → Above t (rounded_of r t) (height_of r (second_of t))
unfolding rounded_of
rounded r t = omega (arith, minute t, sum t (shift_of r (second_of t)), height r (second_of t))

-- rounding keeps the order
pub rounded_mono : (r : Rounding) (t u : ℤ) → t ≼ u → rounded_of r t ≼ rounded_of r u
rounded_mono r t u h =
    let a = minute t in let b = minute u in let d = rounded r t in let e = rounded r u in
    cases (ltb (second_of u) (second_of t)) (λ p. omega (arith, height_most r (second_of t) a.below, ltb-true (second_of u) (second_of t) p))
    (λ p. omega (arith, height_mono r (second_of t) (second_of u) (ltb-false (second_of u) (second_of t) p)))

-- a rounded time is at most a minute from the time
pub rounded_high : (r : Rounding) (t : ℤ) → rounded_of r t ≼ t +ℤ pos 60
rounded_high r t =
    let a = minute t in
    omega (arith, rounded r t, sum t (pos 60), height_most r (second_of t) a.below)

pub rounded_low : (r : Rounding) (t : ℤ) → t ≼ rounded_of r t +ℤ pos 60
rounded_low r t = omega (arith, minute t, rounded r t, sum (rounded_of r t) (pos 60))

second_nearest : (t : ℤ) → second_of (rounded_of Nearest t) ≡ 0
unfolding height_of
second_nearest t =
    let h = rounded Nearest t in
    cases (ltb (second_of t) 30)
    (λ b. let k = rw b at h in second_unique (rounded_of Nearest t) (floor_quot t 60) 0 (record { balance = omega arith; below = lit< tt }))
    (λ b. let k = rw b at h in let s = sum (floor_quot t 60) (pos 1) in
    second_unique (rounded_of Nearest t) (floor_quot t 60 +ℤ pos 1) 0 (record { balance = omega arith; below = lit< tt }))

-- a second rounding by Nearest or None changes nothing
stays : (t : ℤ) → second_of t ≡ 0 → rounded_of Nearest t ≡ t
unfolding rounded_of shift_of
stays t h = ap (λ (s : ℕ). t +ℤ shift_of Nearest s) h ∙ +ℤ_idr t

pub nearest_again : (t : ℤ) → rounded_of Nearest (rounded_of Nearest t) ≡ rounded_of Nearest t
nearest_again t = stays (rounded_of Nearest t) (second_nearest t)

pub none_stays : (t : ℤ) → rounded_of None t ≡ t
unfolding rounded_of shift_of
none_stays t = +ℤ_idr t

-- a time from 0 on is rounded by a quotient
pub nearest_ahead : (n : ℕ) → pos ((n + 30) / 60 * 60) ≡ rounded_of Nearest (pos n)
unfolding height_of
nearest_ahead n =
    let h = rounded Nearest (pos n) in
    cases (ltb (second_of (pos n)) 30)
    (λ b. let k = rw b at h in same _ (rounded_of Nearest (pos n)) (omega (arith, ltb-true (second_of (pos n)) 30 b)))
    (λ b. let k = rw b at h in same _ (rounded_of Nearest (pos n)) (omega (arith, ltb-false (second_of (pos n)) 30 b)))

pub up_ahead : (n : ℕ) → pos (n / 60 * 60 + 60) ≡ rounded_of Up (pos n)
unfolding height_of
up_ahead n = let h = rounded Up (pos n) in same _ (rounded_of Up (pos n)) (omega arith)

-- ---- bounds of rounded and adjusted times, and that nothing saturates within 2 ^ 62 seconds
pub rounded_between : {a b : ℕ} {t : ℤ} (r : Rounding) → Between a b t → Between (a + 60) (b + 60) (rounded_of r t)
rounded_between {a} {b} {t} r h = shifted_between 60 (rounded_of r t) h (rounded_high r t) (rounded_low r t)

pub adjusted_between : {a b k : ℕ} {t m : ℤ} → Between a b t → Near k m → Between (a + k * 60) (b + k * 60) (adjusted_of t m)
unfolding adjusted_of
adjusted_between h l = sum_between h (product_between l 60)

near_fits : {n : ℕ} {z : ℤ} → Near n z → n ≤ 2 ^ 62 → SFits w64 z
near_fits h l = held_fits (record { is = refl; near = h }) l

pub held_rounded : {n : ℕ} {z t : ℤ} (r : Rounding) → Held n z t → n + 60 ≤ 2 ^ 62 → Held (n + 60) (sat_of (rounded_of r z)) (rounded_of r t)
held_rounded {n} {z} {t} r h l =
    let k = rounded_between r h.near in
    record { is = ap (λ (x : ℤ). sat_of (rounded_of r x)) h.is ∙ sat_in (rounded_of r t) (near_fits k l); near = k }

pub held_adjusted : {m n : ℕ} {x y t k : ℤ} → Held m x t → Held n y k → m + n * 60 ≤ 2 ^ 62
    → Held (m + n * 60) (sat_of (adjusted_of x y)) (adjusted_of t k)
held_adjusted {m} {n} {x} {y} {t} {k} h g l =
    let b = adjusted_between h.near g.near in
    record {
      is = ap (λ (z : ℤ). sat_of (adjusted_of z y)) h.is ∙ ap (λ (z : ℤ). sat_of (adjusted_of t z)) g.is
          ∙ sat_in (adjusted_of t k) (near_fits b l);
      near = b;
    }
