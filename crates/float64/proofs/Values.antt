-- A float's value as a fraction: `HasValue x s a c` says that x is a / c with the sign s. Two floats with one value are the same float,
-- the rounding of n / 2 ^ k is exact for n below 2 ^ 53, and a float is the rounding of its own value. Assumes nothing.
use Rattle.prelude.proofs.Logic.{◌≡◌, refl, sym, ap, ◌∙◌, Bool, true, false, cond, ◌&&◌, true≢false, ℕ, zero, suc, ◌+◌, ◌-◌, ◌*◌, ◌/◌, ◌%◌}
use Rattle.prelude.proofs.Logic.{◌^◌, ◌≤◌, ◌<◌, mul-one, zero-mul, mul_assoc, mul_right_comm, mul-le-mul_left, mul-lt-mul_of_pos_right}
use Rattle.prelude.proofs.Logic.{lt_of_lt_of_le, le_trans, not-le_of_lt, arith, T, ltb, leb, eqb, ltb→lt, leb→le, eqb→eq, lit<, lit≤, ℤ}
use Rattle.prelude.proofs.Logic.{pos, negsuc, pow_pos, pow-add, pow_mono, pow-lt, ltb-true, ltb-false, and_l, and_r}
use Rattle.prelude.proofs.Ieee.{Float, nan, inf, fin, Format, binary64, prec, low, hid, top, up, down, size, fits, to_bits, of_bits, round}
use Rattle.prelude.proofs.Ieee.{lt, of_bits-to_bits, HasValue, round_exact, transfer, div_same, down_pos, round-fits}

-- ---- a value has only one pattern
pattern : Format → Bool → ℕ → ℕ
pattern f s n = let k = size n - prec f in cond s (top f) 0 + k * hid f + n / 2 ^ k

pattern_is : (f : Format) (x : Float) (s : Bool) (a c : ℕ) → 0 < c → HasValue x s a c → to_bits f x ≡ pattern f s (a * 2 ^ low f / c)
unfolding to_bits pattern
pattern_is f nan s a c p v = absurd v
pattern_is f (inf t) s a c p v = absurd v
pattern_is f (fin t m e) s a c p v =
    let l = 2 ^ low f in
    let q : m * up e * l / down e ≡ a * l / c = div_same (m * up e * l) (down e) (a * l) c (down_pos e) p
    (mul_right_comm (m * up e) l c ∙ ap (λ (n : ℕ). n * l) v.1 ∙ mul_right_comm a (down e) l) in
    ap (λ (b : Bool). pattern f b (m * up e * l / down e)) v.0 ∙ ap (pattern f s) q

pub value_unique : (f : Format) (x y : Float) (s : Bool) (a c : ℕ) → 0 < c → T (fits f x) → T (fits f y) → HasValue x s a c
    → HasValue y s a c → x ≡ y
value_unique f x y s a c p h k v w =
    sym (of_bits-to_bits f x h) ∙ ap (of_bits f) (pattern_is f x s a c p v ∙ sym (pattern_is f y s a c p w)) ∙ of_bits-to_bits f y k

-- ---- numbers that a float holds exactly
-- 2 ^ 53
abbrev pub big : ℕ
big = 9007199254740992

room : (n j : ℕ) → n < big → j ≤ 1074 → n * 2 ^ j < 2 ^ 2098
room n j h g = lt_of_lt_of_le (mul-lt-mul_of_pos_right h (pow_pos j)) (le_trans (mul-le-mul_left big (pow_mono g)) (lit≤ tt))

-- n / 2 ^ k, for n below 2 ^ 53
pub dyadic_value : (s : Bool) (n k : ℕ) → n < big → k ≤ 1074 → HasValue (round binary64 s n (2 ^ k)) s n (2 ^ k)
dyadic_value s n k h g =
    let j = 1074 - k in let w : j + k ≡ 1074 = omega arith in
    round_exact binary64 s n (2 ^ k) n j (pow_pos k) h (room n j h (omega arith))
    (sym (mul_assoc n (2 ^ j) (2 ^ k) ∙ ap (λ (z : ℕ). n * z) (sym (pow-add 2 j k) ∙ ap (λ (z : ℕ). 2 ^ z) w)))

-- m * 2 ^ k, for m below 2 ^ 53 and a result below 2 ^ 1024
large_value : (s : Bool) (m k : ℕ) → m < big → m * 2 ^ k < 2 ^ 1024 → HasValue (round binary64 s (m * 2 ^ k) 1) s (m * 2 ^ k) 1
large_value s m k h g =
    round_exact binary64 s (m * 2 ^ k) 1 m (k + 1074) (lit< tt) h
    (rw (← shift) (lt_of_lt_of_le (mul-lt-mul_of_pos_right g (pow_pos 1074)) (lit≤ tt)))
    (shift ∙ sym (mul-one (m * 2 ^ (k + 1074))))
  where
    shift : m * 2 ^ k * 2 ^ 1074 ≡ m * 2 ^ (k + 1074)
    shift = mul_assoc m (2 ^ k) (2 ^ 1074) ∙ ap (λ (z : ℕ). m * z) (sym (pow-add 2 k 1074))

-- ---- what `fits` says
parts : (s : Bool) (m : ℕ) (e : ℤ) → T (fits binary64 (fin s (suc m) e))
    → (suc m < big) × (down e ≤ 2 ^ 1074) × (suc m * up e < 2 ^ 1024 * down e)
unfolding fits
parts s m e t =
    let o = eqb (suc m % 2) 1 in let d = ltb (suc m) big in let p = leb (down e) (2 ^ 1074) in
    let r = ltb (suc m * up e) (2 ^ 1024 * down e) in let u = and_l (o && d && p) r t in (
      ltb→lt (suc m) big (and_r o d (and_l (o && d) p u)),
      leb→le (down e) (2 ^ 1074) (and_r (o && d) p u),
      ltb→lt (suc m * up e) (2 ^ 1024 * down e) (and_r (o && d && p) r t),
    )

pub digits : (s : Bool) (m : ℕ) (e : ℤ) → T (fits binary64 (fin s m e)) → m < big
digits s zero e t = lit< tt
digits s (suc m) e t = (parts s m e t).0

pub places : (s : Bool) (m k : ℕ) → T (fits binary64 (fin s m (negsuc k))) → suc k ≤ 1074
places s zero k t = absurd (omega (arith, eqb→eq (1 * 2 ^ suc k) 1 (unfold fits in t)))
places s (suc m) k t = go (ltb 1074 (suc k)) refl (parts s m (negsuc k) t).1
  where
    go : (t : Bool) → ltb 1074 (suc k) ≡ t → 2 ^ suc k ≤ 2 ^ 1074 → suc k ≤ 1074
    go true g l = absurd (not-le_of_lt (pow-lt (ltb-true 1074 (suc k) g)) l)
    go false g l = ltb-false 1074 (suc k) g

-- a float with a negative exponent is smaller than 2 ^ 52
pub fraction_below : (s : Bool) (m k : ℕ) → T (fits binary64 (fin s m (negsuc k))) → m * 1 < 4503599627370496 * 2 ^ suc k
fraction_below s m k t =
    let d = digits s m (negsuc k) t in let p = mul-le-mul_left 4503599627370496 (pow_pos k) in
    let r : 4503599627370496 * 2 ^ suc k ≡ 4503599627370496 * (2 * 2 ^ k) = omega arith in
    omega arith

-- ---- a float is the rounding of its own value
own : (s : Bool) (m : ℕ) (e : ℤ) → T (fits binary64 (fin s m e)) → HasValue (round binary64 s (m * up e) (down e)) s (m * up e) (down e)
own s zero e t =
    round_exact binary64 s (0 * up e) (down e) 0 0 (down_pos e) (lit< tt) (lit< tt)
    (ap (λ (z : ℕ). z * 2 ^ 1074) (zero-mul (up e)) ∙ zero-mul (2 ^ 1074) ∙ sym (zero-mul (down e)))
own s (suc m) (pos k) t = large_value s (suc m) k (digits s (suc m) (pos k) t)
    (let l = (parts s m (pos k) t).2 in rw (mul-one (2 ^ 1024)) at l)
own s (suc m) (negsuc k) t =
    rw (mul-one (suc m)) (dyadic_value s (suc m) (suc k) (digits s (suc m) (negsuc k) t) (places s (suc m) k t))

pub round_own : (s : Bool) (m : ℕ) (e : ℤ) → T (fits binary64 (fin s m e)) → round binary64 s (m * up e) (down e) ≡ fin s m e
round_own s m e t =
    value_unique binary64 (round binary64 s (m * up e) (down e)) (fin s m e) s (m * up e) (down e) (down_pos e)
    (round-fits binary64 s (m * up e) (down e)) t (own s m e t) (refl, refl)

-- a whole number over any denominator
pub over : (x : Float) (s : Bool) (a c : ℕ) → HasValue x s a 1 → HasValue x s (a * c) c
over nan s a c v = absurd v
over (inf t) s a c v = absurd v
over (fin t m e) s a c v = (v.0, ap (λ (z : ℕ). z * c) (sym (mul-one (m * up e)) ∙ v.1) ∙ mul_right_comm a (down e) c)

-- a test compares the exact values
pub lt_values : (x y : Float) (a b c d : ℕ) → 0 < c → 0 < d → HasValue x false a c → HasValue y false b d → lt x y ≡ ltb (a * d) (b * c)
unfolding lt
lt_values nan y a b c d p q v w = absurd v
lt_values (inf s) y a b c d p q v w = absurd v
lt_values (fin s m e) nan a b c d p q v w = absurd w
lt_values (fin s m e) (inf t) a b c d p q v w = absurd w
lt_values (fin true m e) (fin t n k) a b c d p q v w = absurd (true≢false v.0)
lt_values (fin false m e) (fin true n k) a b c d p q v w = absurd (true≢false w.0)
lt_values (fin false m e) (fin false n k) a b c d p q v w =
    same (m * up e * down k) (n * up k * down e) (a * d) (b * c)
    (transfer b a d c (n * up k) (m * up e) (down k) (down e) (down_pos k) (down_pos e) (sym w.1) (sym v.1))
    (transfer (n * up k) (m * up e) (down k) (down e) b a d c q p w.1 v.1)
  where
    same : (i j k l : ℕ) → (j ≤ i → l ≤ k) → (l ≤ k → j ≤ i) → ltb i j ≡ ltb k l
    same i j k l g h = go (ltb i j) (ltb k l) refl refl
      where
        go : (s t : Bool) → ltb i j ≡ s → ltb k l ≡ t → s ≡ t
        go true true p q = refl
        go false false p q = refl
        go true false p q = let z = h (ltb-false k l q) in let y = ltb-true i j p in absurd (omega arith)
        go false true p q = let z = g (ltb-false i j p) in let y = ltb-true k l q in absurd (omega arith)
