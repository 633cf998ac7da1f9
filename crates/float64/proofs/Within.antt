-- Bounds of sizes through the operations: a float is finite, and no more than a / c in size. Each bound is n / 2 ^ k with n below 2 ^ 53,
-- which is a float. Rounding keeps the order, so a rounded result does not pass the bound. Assumes nothing.
use Rattle.prelude.proofs.Logic.{◌≡◌, refl, sym, ap, ◌∙◌, subst, Bool, true, false, ◌&&◌, ◌||◌, cond, true≢false, ℕ, zero, suc, ◌+◌, ◌-◌}
use Rattle.prelude.proofs.Logic.{◌*◌, ◌/◌, ◌%◌, ◌^◌, ◌≤◌, ◌<◌, compare, mul-one, mul_assoc, mul_comm, mul_left_comm, add-mul, mul-pos}
use Rattle.prelude.proofs.Logic.{mul-le-mul, mul-le-mul_right, le_of_mul-le-mul_right, le_trans, le_of_eq, le_of_lt, arith, T, ltb, eqb}
use Rattle.prelude.proofs.Logic.{eqb→eq, lit≤, pow_pos, ltb-true, ne_eqb, and_l}
use Rattle.prelude.proofs.Ieee.{Float, nan, inf, fin, binary64, up, down, unlike, nearest, size, odd, units, round, neg, sum, add, sub, mul}
use Rattle.prelude.proofs.Ieee.{div, le, HasValue, down_pos, round_mono, transfer, first_pos}
use Rattle.float64.specs.Sizes.{abs_of}
use Rattle.float64.specs.Words.{is_negative_of}
use Rattle.float64.proofs.Values.{big, dyadic_value}

-- finite, and no more than a / c in size
abbrev pub Within : Float → ℕ → ℕ → Type 0
Within nan a c = ⊥
Within (inf s) a c = ⊥
Within (fin s m e) a c = m * up e * c ≤ a * down e

-- not a NaN, and with the sign s
abbrev pub Signed : Bool → Float → Type 0
Signed s nan = ⊥
Signed s (inf t) = t ≡ s
Signed s (fin t m e) = t ≡ s

pub value_within : (x : Float) (s : Bool) (a c : ℕ) → HasValue x s a c → Within x a c
value_within nan s a c v = absurd v
value_within (inf t) s a c v = absurd v
value_within (fin t m e) s a c v = le_of_eq v.1

pub neg_within : (x : Float) (a c : ℕ) → Within x a c → Within (neg x) a c
unfolding neg
neg_within nan a c h = h
neg_within (inf s) a c h = h
neg_within (fin s m e) a c h = h

pub abs_within : (x : Float) (a c : ℕ) → Within x a c → Within (abs_of x) a c
unfolding abs_of
abs_within nan a c h = h
abs_within (inf s) a c h = h
abs_within (fin s m e) a c h = h

-- a float that has a bound is not a NaN, so it has a sign
pub within_signed : (x : Float) (a c : ℕ) → Within x a c → Signed (is_negative_of x) x
unfolding is_negative_of
within_signed nan a c h = absurd h
within_signed (inf s) a c h = absurd h
within_signed (fin s m e) a c h = refl

-- a wider bound
pub widen : (x : Float) (a b c : ℕ) → a ≤ b → Within x a c → Within x b c
widen nan a b c l h = h
widen (inf s) a b c l h = h
widen (fin s m e) a b c l h = le_trans h (mul-le-mul_right (down e) l)

-- ---- rounding
-- rounding keeps the sign
odd_neg : (d q k l : ℕ) → odd d true q k l ≡ neg (odd d false q k l)
unfolding odd neg
odd_neg d zero k l = refl
odd_neg d (suc q) k l = refl

-- `round`'s last step
module _ (a b : ℕ) where
  scaled : ℕ
  scaled = a * 2 ^ 1074

  places : ℕ
  places = size (scaled / b) - 53

  kept : ℕ
  kept = nearest (scaled / (b * 2 ^ places)) (compare (scaled % (b * 2 ^ places) * 2) (b * 2 ^ places))

  pub round-neg : round binary64 true a b ≡ neg (round binary64 false a b)
  unfolding round units neg scaled places kept
  round-neg = go (ltb (kept * 2 ^ places) (2 ^ 2098))
    where
      go : (t : Bool) → cond t (odd 54 true kept places 1074) (inf true) ≡ neg (cond t (odd 54 false kept places 1074) (inf false))
      go true = odd_neg 54 kept places 1074
      go false = refl

  pub round-signed : (s : Bool) → Signed s (round binary64 s a b)
  unfolding round units odd scaled places kept
  round-signed s = go (ltb (kept * 2 ^ places) (2 ^ 2098)) kept
    where
      go : (t : Bool) (r : ℕ) → Signed s (cond t (odd 54 s r places 1074) (inf s))
      go true zero = refl
      go true (suc r) = refl
      go false r = refl

-- from a test to the sizes
pub le_sizes : (a b : ℕ) (t : Bool) → T (ltb a b || (eqb a b && t)) → a ≤ b
le_sizes a b t h = go (ltb a b) refl h
  where
    go : (u : Bool) → ltb a b ≡ u → T (u || (eqb a b && t)) → a ≤ b
    go true l h = le_of_lt (ltb-true a b l)
    go false l h = le_of_eq (eqb→eq a b (and_l (eqb a b) t h))

-- x is at most y, and y is a / c
pub under_value : (x y : Float) (a c : ℕ) → 0 < c → Signed false x → HasValue y false a c → T (le x y) → Within x a c
unfolding le
under_value nan y a c p n v h = absurd n
under_value (inf true) y a c p n v h = absurd (true≢false n)
under_value (inf false) nan a c p n v h = absurd v
under_value (inf false) (inf t) a c p n v h = absurd v
under_value (inf false) (fin t l d) a c p n v h = absurd h
under_value (fin true m e) y a c p n v h = absurd (true≢false n)
under_value (fin false m e) nan a c p n v h = absurd v
under_value (fin false m e) (inf t) a c p n v h = absurd v
under_value (fin false m e) (fin true l d) a c p n v h = absurd (true≢false v.0)
under_value (fin false m e) (fin false l d) a c p n v h =
    transfer (m * up e) a (down e) c (m * up e) (l * up d) (down e) (down d) (down_pos e) (down_pos d) refl (sym v.1)
    (le_sizes (m * up e * down d) (l * up d * down e) true h)

-- rounding does not pass a bound that is a float
module _ (a b n k : ℕ) (p : 0 < b) (h : n < big) (g : k ≤ 1074) (l : a * 2 ^ k ≤ n * b) where
  plain-within : Within (round binary64 false a b) n (2 ^ k)
  plain-within =
      under_value (round binary64 false a b) (round binary64 false n (2 ^ k)) n (2 ^ k) (pow_pos k) (round-signed a b false)
      (dyadic_value false n k h g)
      (round_mono binary64 a b n (2 ^ k) p (pow_pos k) l)

  pub round-within : (s : Bool) → Within (round binary64 s a b) n (2 ^ k)
  round-within false = plain-within
  round-within true =
      subst (λ (x : Float). Within x n (2 ^ k)) (sym (round-neg a b)) (neg_within (round binary64 false a b) n (2 ^ k) plain-within)

-- ---- the operations
ruleset ring = (mul_assoc, mul_comm, mul_left_comm)

-- if M / E ≤ a / c and N / D ≤ b / d, the product is at most q / w
product : (M N E D a b c d q w : ℕ) → 0 < c → 0 < d → M * c ≤ a * E → N * d ≤ b * D → a * b * w ≤ q * (c * d) → M * N * w ≤ q * (E * D)
product M N E D a b c d q w C D' h k l =
    let u : M * N * w * (c * d) ≡ M * c * (N * d) * w = simp ring in
    let v : a * E * (b * D) * w ≡ a * b * w * (E * D) = simp ring in
    let x : q * (c * d) * (E * D) ≡ q * (E * D) * (c * d) = simp ring in
    le_of_mul-le-mul_right
    (le_trans (le_of_eq u)
    (le_trans (mul-le-mul_right w (mul-le-mul h k)) (le_trans (le_of_eq v) (le_trans (mul-le-mul_right (E * D) l) (le_of_eq x)))))
    (mul-pos C D')

pub mul_within : (x y : Float) (a b c d n k : ℕ) → 0 < c → 0 < d → Within x a c → Within y b d → n < big → k ≤ 1074
    → a * b * 2 ^ k ≤ n * (c * d) → Within (mul binary64 x y) n (2 ^ k)
unfolding mul
mul_within nan y a b c d n k C D h i p q l = absurd h
mul_within (inf s) y a b c d n k C D h i p q l = absurd h
mul_within (fin s m e) nan a b c d n k C D h i p q l = absurd i
mul_within (fin s m e) (inf t) a b c d n k C D h i p q l = absurd i
mul_within (fin s m e) (fin t r f) a b c d n k C D h i p q l =
    round-within (m * up e * (r * up f)) (down e * down f) n k (mul-pos (down_pos e) (down_pos f)) p q
    (product (m * up e) (r * up f) (down e) (down f) a b c d n (2 ^ k) C D h i l)
    (unlike s t)

-- a quotient whose divisor is b / d
pub div_within : (x y : Float) (t : Bool) (a b c d n k : ℕ) → 0 < b → 0 < c → 0 < d → Within x a c → HasValue y t b d → n < big → k ≤ 1074
    → a * d * 2 ^ k ≤ n * (b * c) → Within (div binary64 x y) n (2 ^ k)
unfolding div
div_within nan y t a b c d n k B C D h v p q l = absurd h
div_within (inf s) y t a b c d n k B C D h v p q l = absurd h
div_within (fin s m e) nan t a b c d n k B C D h v p q l = absurd v
div_within (fin s m e) (inf u) t a b c d n k B C D h v p q l = absurd v
div_within (fin s m e) (fin u r f) t a b c d n k B C D h v p q l =
    let z : 0 < r * up f = first_pos (r * up f) d (rw v.1 (mul-pos B (down_pos f))) in
    let g : 0 < r = first_pos r (up f) z in
    rw (ne_eqb r 0 (λ (i : r ≡ 0). omega arith))
    (round-within (m * up e * down f) (r * up f * down e) n k (mul-pos z (down_pos e)) p q
    (rw (mul_comm (down e) (r * up f)) at (product (m * up e) (down f) (down e) (r * up f) a d c b n (2 ^ k) C B h
    (le_of_eq (mul_comm (down f) b ∙ sym v.1 ∙ mul_comm (r * up f) d)) (rw (mul_comm b c) at l)))
    (unlike s u))

-- sums and differences, for whole bounds
within_sum : (M N E D a b : ℕ) → M * 1 ≤ a * E → N * 1 ≤ b * D → M * D + N * E ≤ (a + b) * (E * D)
within_sum M N E D a b h k =
    let x = mul-le-mul_right D h in
    let y = mul-le-mul_right E k in omega arith

pub add_within : (x y : Float) (a b : ℕ) → Within x a 1 → Within y b 1 → a + b < big → Within (add binary64 x y) (a + b) 1
unfolding add sum
add_within nan y a b h k p = absurd h
add_within (inf s) y a b h k p = absurd h
add_within (fin s m e) nan a b h k p = absurd k
add_within (fin s m e) (inf t) a b h k p = absurd k
add_within (fin s m e) (fin t n d) a b h k p = by_sign s t
  where
    A : ℕ
    A = m * up e * down d

    B : ℕ
    B = n * up d * down e

    D : ℕ
    D = down e * down d

    at : (u : Bool) (c : ℕ) → c ≤ A + B → Within (round binary64 u c D) (a + b) 1
    at u c l = let w = within_sum (m * up e) (n * up d) (down e) (down d) a b h k in
        round-within c D (a + b) 0 (mul-pos (down_pos e) (down_pos d)) p (lit≤ tt) (omega arith) u

    apart : (t u r : Bool) → Within (cond r (round binary64 t (B - A) D) (round binary64 u (A - B) D)) (a + b) 1
    apart t u true = at t (B - A) (omega arith)
    apart t u false = at u (A - B) (omega arith)

    by_sign : (s t : Bool) → Within (sum binary64 s A t B D) (a + b) 1
    by_sign true true = at true (A + B) (omega arith)
    by_sign false false = at false (A + B) (omega arith)
    by_sign true false = apart false (true && ltb B A) (ltb A B)
    by_sign false true = apart true (false && ltb B A) (ltb A B)

pub sub_within : (x y : Float) (a b : ℕ) → Within x a 1 → Within y b 1 → a + b < big → Within (sub binary64 x y) (a + b) 1
unfolding sub
sub_within x y a b h k p = add_within x (neg y) a b h (neg_within y b 1 k) p

-- the difference of two whole numbers that are no more than c apart
pub apart_within : (x y : Float) (a b c : ℕ) → HasValue x false a 1 → HasValue y false b 1 → a ≤ b + c → b ≤ a + c → c < big
    → Within (sub binary64 x y) c 1
unfolding sub neg add sum
apart_within nan y a b c v w h k p = absurd v
apart_within (inf s) y a b c v w h k p = absurd v
apart_within (fin s m e) nan a b c v w h k p = absurd w
apart_within (fin s m e) (inf t) a b c v w h k p = absurd w
apart_within (fin true m e) (fin t n d) a b c v w h k p = absurd (true≢false v.0)
apart_within (fin false m e) (fin true n d) a b c v w h k p = absurd (true≢false w.0)
apart_within (fin false m e) (fin false n d) a b c v w h k p = by-test (ltb A B)
  where
    A : ℕ
    A = m * up e * down d

    B : ℕ
    B = n * up d * down e

    D : ℕ
    D = down e * down d

    a-is : A ≡ a * D
    a-is = ap (λ (z : ℕ). z * down d) (sym (mul-one (m * up e)) ∙ v.1) ∙ mul_assoc a (down e) (down d)

    b-is : B ≡ b * D
    b-is = ap (λ (z : ℕ). z * down e) (sym (mul-one (n * up d)) ∙ w.1) ∙ mul_assoc b (down d) (down e)
        ∙ ap (λ (z : ℕ). b * z) (mul_comm (down d) (down e))

    at : (u : Bool) (q : ℕ) → q ≤ c * D → Within (round binary64 u q D) c 1
    at u q l = round-within q D c 0 (mul-pos (down_pos e) (down_pos d)) p (lit≤ tt) (omega arith) u

    by-test : (t : Bool) → Within (cond t (round binary64 true (B - A) D) (round binary64 (false && ltb B A) (A - B) D)) c 1
    by-test true = at true (B - A) (let i = a-is in let j = b-is in omega (arith, add-mul a c D, mul-le-mul_right D k))
    by-test false = at (false && ltb B A) (A - B) (let i = a-is in let j = b-is in omega (arith, add-mul b c D, mul-le-mul_right D h))
