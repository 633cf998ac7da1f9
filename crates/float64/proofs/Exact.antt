-- When binary64's operations lose nothing. On known fractions each is one rounding of the exact result. On whole numbers, halves, quarters
-- and so on it is exact. To add or subtract a zero changes nothing. Assumes nothing.
use Rattle.prelude.proofs.Logic.{◌≡◌, refl, sym, ap, ◌∙◌, Bool, true, false, true≢false, ℕ, ◌+◌, ◌-◌, ◌*◌, ◌^◌, ◌≤◌, ◌<◌}
use Rattle.prelude.proofs.Logic.{mul-one, mul_assoc, mul_comm, mul_left_comm, mul_right_comm, add-mul, mul-pos, mul-le-mul_right}
use Rattle.prelude.proofs.Logic.{lt_of_le_of_lt, le_of_mul-le-mul_right, mul-sub, arith, T, lit<, ℤ, pos, pow_pos, le-ltb}
use Rattle.prelude.proofs.Ieee.{Float, nan, inf, fin, Format, binary64, up, down, unlike, fits, of_bits, of_int, round, neg, sum, add, sub}
use Rattle.prelude.proofs.Ieee.{mul, HasValue, round_same, down_pos}
use Rattle.float64.proofs.Values.{big, dyadic_value, round_own}

-- ---- the operations on values that are not negative: one rounding of the exact result
-- a / c and b / c, both not negative, brought to the denominator of the floats themselves
module _ (f : Format) (a b c : ℕ) (p : 0 < c) where
  module _ (m n : ℕ) (e d : ℤ) (v : m * up e * c ≡ a * down e) (w : n * up d * c ≡ b * down d) where
    first : m * up e * down d * c ≡ a * (down e * down d)
    first = mul_right_comm (m * up e) (down d) c ∙ ap (λ (z : ℕ). z * down d) v ∙ mul_assoc a (down e) (down d)

    second : n * up d * down e * c ≡ b * (down e * down d)
    second = mul_right_comm (n * up d) (down e) c ∙ ap (λ (z : ℕ). z * down e) w ∙ mul_assoc b (down d) (down e)
        ∙ ap (λ (z : ℕ). b * z) (mul_comm (down d) (down e))

  pub add_same : (x y : Float) → HasValue x false a c → HasValue y false b c → add f x y ≡ round f false (a + b) c
  unfolding add sum
  add_same nan y v w = absurd v
  add_same (inf s) y v w = absurd v
  add_same (fin s m e) nan v w = absurd w
  add_same (fin s m e) (inf t) v w = absurd w
  add_same (fin true m e) (fin t n d) v w = absurd (true≢false v.0)
  add_same (fin false m e) (fin true n d) v w = absurd (true≢false w.0)
  add_same (fin false m e) (fin false n d) v w =
      let D = down e * down d in let g = first m n e d v.1 w.1 in let h = second m n e d v.1 w.1 in
      round_same f false (m * up e * down d + n * up d * down e) D (a + b) c (mul-pos (down_pos e) (down_pos d)) p
      (add-mul (m * up e * down d) (n * up d * down e) c ∙ rw (g, h) (sym (add-mul a b D)))

  pub sub_same : b ≤ a → (x y : Float) → HasValue x false a c → HasValue y false b c → sub f x y ≡ round f false (a - b) c
  unfolding add sum sub neg
  sub_same l nan y v w = absurd v
  sub_same l (inf s) y v w = absurd v
  sub_same l (fin s m e) nan v w = absurd w
  sub_same l (fin s m e) (inf t) v w = absurd w
  sub_same l (fin true m e) (fin t n d) v w = absurd (true≢false v.0)
  sub_same l (fin false m e) (fin true n d) v w = absurd (true≢false w.0)
  sub_same l (fin false m e) (fin false n d) v w =
      let A = m * up e * down d in let B = n * up d * down e in let D = down e * down d in
      let g : A * c ≡ a * D = first m n e d v.1 w.1 in let h : B * c ≡ b * D = second m n e d v.1 w.1 in
      let k : b * D ≤ a * D = mul-le-mul_right D l in let o : B ≤ A = le_of_mul-le-mul_right (omega arith) p in
      rw (le-ltb A B o)
      (round_same f false (A - B) D (a - b) c (mul-pos (down_pos e) (down_pos d)) p (sub-mul A B c ∙ rw (g, h) (sym (sub-mul a b D))))
    where
      sub-mul : (a b c : ℕ) → (a - b) * c ≡ a * c - b * c
      sub-mul a b c = mul_comm (a - b) c ∙ mul-sub c a b ∙ rw (mul_comm c a, mul_comm c b)

pub mul_same : (f : Format) (x y : Float) (s t : Bool) (a b c d : ℕ) → 0 < c → 0 < d → HasValue x s a c → HasValue y t b d
    → mul f x y ≡ round f (unlike s t) (a * b) (c * d)
unfolding mul
mul_same f nan y s t a b c d p q v w = absurd v
mul_same f (inf u) y s t a b c d p q v w = absurd v
mul_same f (fin u m e) nan s t a b c d p q v w = absurd w
mul_same f (fin u m e) (inf r) s t a b c d p q v w = absurd w
mul_same f (fin u m e) (fin r n k) s t a b c d p q v w =
    rw (v.0, w.0)
    (round_same f (unlike s t) (m * up e * (n * up k)) (down e * down k) (a * b) (c * d) (mul-pos (down_pos e) (down_pos k)) (mul-pos p q)
    (mul-mul (m * up e) (n * up k) c d ∙ rw (v.1, w.1) (mul-mul a (down e) b (down k))))
  where
    mul-mul : (a b c d : ℕ) → a * b * (c * d) ≡ a * c * (b * d)
    mul-mul a b c d = simp (mul_assoc, mul_left_comm)

-- ---- n / 2 ^ k as a float, and sums and differences of these
abbrev pub dyadic : ℕ → ℕ → Float
dyadic k n = round binary64 false n (2 ^ k)

pub int_dyadic : (k n : ℕ) → of_int binary64 (pos n) ≡ dyadic k (n * 2 ^ k)
unfolding of_int
int_dyadic k n = round_same binary64 false n 1 (n * 2 ^ k) (2 ^ k) (lit< tt) (pow_pos k) (sym (mul-one (n * 2 ^ k)))

pub add_dyadic : (k p q : ℕ) → k ≤ 1074 → p < big → q < big → add binary64 (dyadic k p) (dyadic k q) ≡ dyadic k (p + q)
add_dyadic k p q h i j =
    add_same binary64 p q (2 ^ k) (pow_pos k) (dyadic k p) (dyadic k q) (dyadic_value false p k i h) (dyadic_value false q k j h)

pub sub_dyadic : (k p q : ℕ) → k ≤ 1074 → p < big → q ≤ p → sub binary64 (dyadic k p) (dyadic k q) ≡ dyadic k (p - q)
sub_dyadic k p q h i l = sub_same binary64 p q (2 ^ k) (pow_pos k) l (dyadic k p) (dyadic k q) (dyadic_value false p k i h)
    (dyadic_value false q k (lt_of_le_of_lt l i) h)

-- ---- adding a zero
own_again : (s : Bool) (m : ℕ) (e : ℤ) → T (fits binary64 (fin s m e)) → (a c : ℕ) → a ≡ m * up e → c ≡ down e
    → round binary64 s a c ≡ fin s m e
own_again s m e h a c p q = ap (λ (z : ℕ). round binary64 s z c) p ∙ ap (round binary64 s (m * up e)) q ∙ round_own s m e h

abbrev zero64 : Float
zero64 = of_bits binary64 0

pub sub_zero64 : (x : Float) → T (fits binary64 x) → sub binary64 x zero64 ≡ x
unfolding sub add sum neg of_bits
sub_zero64 nan h = refl
sub_zero64 (inf s) h = refl
sub_zero64 (fin true m e) h = own_again true m e h (m * up e * 1 + 0 * down e) (down e * 1) (omega arith) (mul-one (down e))
sub_zero64 (fin false m e) h =
    rw (le-ltb (m * up e * 1) (0 * down e) (omega arith))
    (own_again false m e h (m * up e * 1 - 0 * down e) (down e * 1) (omega arith) (mul-one (down e)))
