-- Each float's size, in units of the smallest float, is a significand of at most 53 digits times a power of two.
use Rattle.prelude.proofs.Logic.{◌≡◌, sym, ap, ◌∙◌, subst, Bool, false, ◌&&◌, ℕ, zero, suc, ◌+◌, ◌-◌, ◌*◌, ◌%◌, ◌^◌, ◌≤◌, ◌<◌}
use Rattle.prelude.proofs.Logic.{lt_of_lt_of_le, not-le_of_lt, zero-mul, mul-one, mul_assoc, mul_right_comm, mul-pos, mul-le-mul_right}
use Rattle.prelude.proofs.Logic.{mul-lt-mul_of_pos_right, lt_of_mul-lt-mul_right, eq_of_mul-eq-mul_right, arith, T, eqb, leb, ltb, leb→le}
use Rattle.prelude.proofs.Logic.{ltb→lt, pos, negsuc, pow-add, pow_pos, pow_mono, pow-lt, shl_lt, and_l, and_r}
use Rattle.prelude.proofs.Ieee.{nan, inf, Float, fin, binary64, up, down, size, fits, size-lt, size-le, size_reaches, down_pos, HasValue}

pub record Written (a : ℕ) : Type 0 where
  pub digits : ℕ
  pub places : ℕ
  pub is : a ≡ digits * 2 ^ places
  pub few : digits < 2 ^ 53

-- from units of 2 ^ -k to units of 2 ^ -l
down_to : (m a k l : ℕ) → 2 ^ k ≤ 2 ^ l → m * 1 * 2 ^ l ≡ a * 2 ^ k → a ≡ m * 2 ^ (l - k)
down_to m a k l h e =
    let over : l < k → ⊥ = λ g. not-le_of_lt (pow-lt g) h in let k_le : k ≤ l = omega (arith, over) in
    let whole : l - k + k ≡ l = omega arith in
    eq_of_mul-eq-mul_right (2 ^ k) (pow_pos k) a (m * 2 ^ (l - k))
    (sym e ∙ ap (λ (z : ℕ). z * 2 ^ l) (mul-one m) ∙ ap (λ (z : ℕ). m * 2 ^ z) (sym whole) ∙ ap (λ (z : ℕ). m * z) (pow-add 2 (l - k) k)
    ∙ sym (mul_assoc m (2 ^ (l - k)) (2 ^ k)))

-- the four tests of `fits`
tests : (a b c d : Bool) → T (a && b && c && d) → T b × T c × T d
tests a b c d h = let abc = and_l (a && b && c) d h in (and_r a b (and_l (a && b) c abc), and_r (a && b) c abc, and_r (a && b && c) d h)

pub written : (x : Float) (a : ℕ) → T (fits binary64 x) → HasValue x false a (2 ^ 1074) → Written a
unfolding fits
written (fin s zero e) a h v =
    record {
      digits = 0;
      places = 0;
      is = eq_of_mul-eq-mul_right (down e) (down_pos e) a 0 (sym v.1 ∙ nothing (up e) (2 ^ 1074) (down e));
      few = pow_pos 53;
    }
  where
    nothing : (a b c : ℕ) → 0 * a * b ≡ 0 * c
    nothing a b c = ap (λ (z : ℕ). z * b) (zero-mul a) ∙ zero-mul b ∙ sym (zero-mul c)
written (fin s (suc m) (pos k)) a h v =
    record {
      digits = suc m;
      places = k + 1074;
      is = sym (mul-one a) ∙ sym v.1 ∙ mul_assoc (suc m) (2 ^ k) (2 ^ 1074) ∙ ap (λ (z : ℕ). suc m * z) (sym (pow-add 2 k 1074));
      few = ltb→lt (suc m) (2 ^ 53)
          (tests (eqb (suc m % 2) 1) (ltb (suc m) (2 ^ 53)) (leb 1 (2 ^ 1074)) (ltb (suc m * 2 ^ k) (2 ^ 1024 * 1)) h).0;
    }
written (fin s (suc m) (negsuc k)) a h v =
    let t = tests (eqb (suc m % 2) 1) (ltb (suc m) (2 ^ 53)) (leb (2 ^ suc k) (2 ^ 1074)) (ltb (suc m * 1) (2 ^ 1024 * 2 ^ suc k)) h in
    record {
      digits = suc m;
      places = 1074 - suc k;
      is = down_to (suc m) a (suc k) 1074 (leb→le (2 ^ suc k) (2 ^ 1074) t.1) v.1;
      few = ltb→lt (suc m) (2 ^ 53) t.0;
    }
written nan a h v = elim v [ ]
written (inf _) a h v = elim v [ ]

-- a significand q of at most 53 digits, moved up to 53
pub record Widened (q : ℕ) : Type 0 where
  pub spare : ℕ
  pub few : spare < 53
  pub low : 2 ^ 52 ≤ q * 2 ^ spare
  pub high : q * 2 ^ spare < 2 ^ 53

pub widened : (q : ℕ) → 0 < q → q < 2 ^ 53 → Widened q
widened q some few =
    let p = size q in let none : p ≡ 0 → ⊥ = λ e. no_digit q some (subst (λ (z : ℕ). q < 2 ^ z) e (size-lt q)) in
    let most : p ≤ 53 = size-le q 53 few in let lead : 2 ^ (p - 1) ≤ q = size_reaches q (p - 1) (omega (arith, none)) in
    let below : p - 1 + (53 - p) ≡ 52 = omega (arith, none) in let above : p + (53 - p) ≡ 53 = omega arith in
    record {
      spare = 53 - p;
      few = omega (arith, none);
      low = subst (λ (z : ℕ). 2 ^ z ≤ q * 2 ^ (53 - p)) below (rw (pow-add 2 (p - 1) (53 - p)) (mul-le-mul_right (2 ^ (53 - p)) lead));
      high = subst (λ (z : ℕ). q * 2 ^ (53 - p) < 2 ^ z) above (shl_lt p (53 - p) (size-lt q));
    }
  where
    no_digit : (q : ℕ) → 0 < q → q < 1 → ⊥
    no_digit q h k = omega arith

-- from 2 ^ 52 * 2 ^ j on a float is a multiple of 2 ^ j
pub multiple : (b j : ℕ) → Written b → 2 ^ 52 * 2 ^ j ≤ b → (u : ℕ) × (b ≡ u * 2 ^ j)
multiple b j w h =
    let q = w.digits in let k = w.places in let less : k < j → ⊥ = λ g. not-le_of_lt (small q k w.few w.is g) h in
    let j_le : j ≤ k = omega (arith, less) in let whole : k - j + j ≡ k = omega arith in (
      q * 2 ^ (k - j),
      w.is ∙ ap (λ (z : ℕ). q * 2 ^ z) (sym whole) ∙ ap (λ (z : ℕ). q * z) (pow-add 2 (k - j) j) ∙ sym (mul_assoc q (2 ^ (k - j)) (2 ^ j)),
    )
  where
    small : (q k : ℕ) → q < 2 ^ 53 → b ≡ q * 2 ^ k → k < j → b < 2 ^ 52 * 2 ^ j
    small q k few is g =
        let top : q * 2 ^ k < 2 ^ (53 + k) = shl_lt 53 k few in let room : 2 ^ (53 + k) ≤ 2 ^ (52 + j) = pow_mono (omega arith) in
        rw (is, ← pow-add 2 52 j) (lt_of_lt_of_le top room)

-- every float is below 2 ^ 2098 units of the smallest
pub bounded : (x : Float) (a : ℕ) → T (fits binary64 x) → HasValue x false a (2 ^ 1074) → a < 2 ^ 2098
unfolding fits
bounded (fin s zero e) a h v =
    lt_of_mul-lt-mul_right (down e)
    (subst (λ (z : ℕ). z < 2 ^ 2098 * down e) v.1 (rw (zero-mul (up e)) (mul-pos (pow_pos 2098) (down_pos e))))
bounded (fin s (suc m) e) a h v =
    let t = tests (eqb (suc m % 2) 1) (ltb (suc m) (2 ^ 53)) (leb (down e) (2 ^ 1074)) (ltb (suc m * up e) (2 ^ 1024 * down e)) h in
    let less : suc m * up e * 2 ^ 1074 < 2 ^ 1024 * down e * 2 ^ 1074 =
    mul-lt-mul_of_pos_right (ltb→lt (suc m * up e) (2 ^ 1024 * down e) t.2) (pow_pos 1074) in
    lt_of_mul-lt-mul_right (down e)
    (rw (← v.1) (subst (λ (z : ℕ). suc m * up e * 2 ^ 1074 < z) (mul_right_comm (2 ^ 1024) (down e) (2 ^ 1074)) less))
bounded nan a h v = elim v [ ]
bounded (inf _) a h v = elim v [ ]
