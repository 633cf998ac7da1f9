-- What fdlibm's tests on the high word say of the size of an argument up to 3 / 4, and how large `quarter_of` is there. Assumes nothing.
use Rattle.prelude.proofs.Logic.{◌≡◌, refl, sym, ap, subst, Bool, true, false, cond, inl, inr, ℕ, zero, suc, ◌+◌, ◌-◌, ◌*◌, ◌/◌, ◌%◌, ◌^◌}
use Rattle.prelude.proofs.Logic.{◌≤◌, ◌<◌, le_trans, le_of_eq, lt_of_le_of_lt, lt_of_lt_of_le, mul-le-mul, mul-le-mul_right, eq-or-lt_of_le}
use Rattle.prelude.proofs.Logic.{le_of_mul-le-mul_right, div-lt_iff_lt-mul, lt-div-mul-add, mod-lt, arith, T, lit<, lit≤, ltb, ltb→lt, ℤ}
use Rattle.prelude.proofs.Logic.{pow_pos, pow_mono, le-ltb, lt-leb, ne_eqb}
use Rattle.float64.proofs.Floats.{Float, nan, inf, fin, binary64, up, down, size, to_bits, of_fields, of_bits, odd, size-lt, size-le, HasValue}
use Rattle.float64.proofs.Floats.{odd_sign, kept-lt, down_pos, transfer, high_of, Within}
use Rattle.fdlibm_trig.specs.KCos.{quarter_of}

-- ---- the pattern of n smallest values, without its sign; that of 3 / 4 is 0x3fe8_0000_0000_0000
abbrev pattern : ℕ → ℕ
pattern n = (size n - 53) * 2 ^ 52 + n / 2 ^ (size n - 53)

abbrev top : ℕ
top = 0x3fe8_0000_0000_0000

pattern_le : (n : ℕ) → n < (3 * 2 ^ 51 + 1) * 2 ^ 1021 → pattern n ≤ top
pattern_le n h =
    elim (eq-or-lt_of_le (few (size n) (size-le n 1074 (lt_of_lt_of_le h (lit≤ tt))))) [
      | inl e ↦ subst (λ (k : ℕ). k * 2 ^ 52 + n / 2 ^ k ≤ top) (sym e) (at_top (n / 2 ^ 1021) ((div-lt_iff_lt-mul (pow_pos 1021)).1 h))
      | inr l ↦ lower (size n - 53) (n / 2 ^ (size n - 53)) l (kept-lt 53 n)
    ]
  where
    few : (z : ℕ) → z ≤ 1074 → z - 53 ≤ 1021
    few z h = omega arith

    at_top : (q : ℕ) → q < 3 * 2 ^ 51 + 1 → 1021 * 2 ^ 52 + q ≤ top
    at_top q h = omega arith

    lower : (k q : ℕ) → k < 1021 → q < 2 ^ 53 → k * 2 ^ 52 + q ≤ top
    lower k q h l = omega arith

pattern_lt : (n : ℕ) → pattern n / 2 ^ 32 < 0x3e40_0000 → n < 2 ^ 1048
pattern_lt n h = lt_of_lt_of_le (size-lt n) (pow_mono (reach (size n) (n / 2 ^ (size n - 53)) h))
  where
    reach : (z q : ℕ) → ((z - 53) * 2 ^ 52 + q) / 2 ^ 32 < 0x3e40_0000 → z ≤ 1048
    reach z q h = omega arith

module _ (s : Bool) (m : ℕ) (e : ℤ) (h : Within (fin s m e) 3 4) where
  -- the size in smallest values, cut to a whole number
  abbrev count : ℕ
  count = m * up e * 2 ^ 1074 / down e

  count-pattern : pattern count ≤ top
  count-pattern = pattern_le count
      ((div-lt_iff_lt-mul (down_pos e)).1 (below (m * up e) (down e) (2 ^ 1074) ((3 * 2 ^ 51 + 1) * 2 ^ 1021) (down_pos e) h (lit< tt)))
    where
      below : (a d L M : ℕ) → 0 < d → a * 4 ≤ 3 * d → 3 * L < 4 * M → a * L < M * d
      below a d L M D h l = le_of_mul-le-mul_right {k = 4} (omega (arith, mul-le-mul_right L h, mul-le-mul_right d l)) (lit< tt)

  high_is : high_of (fin s m e) ≡ pattern count / 2 ^ 32
  unfolding high_of to_bits
  high_is = unsigned s ((size count - 53) * 2 ^ 52) (count / 2 ^ (size count - 53)) count-pattern
    where
      unsigned : (s : Bool) (a b : ℕ) → a + b ≤ top → (cond s (2 ^ 63) 0 + a + b) % 2 ^ 63 / 2 ^ 32 ≡ (a + b) / 2 ^ 32
      unsigned true a b h = omega arith
      unsigned false a b h = omega arith

  pub high_le : high_of (fin s m e) ≤ 0x3fe8_0000
  high_le = le_trans (le_of_eq high_is) (word (pattern count) count-pattern)
    where
      word : (b : ℕ) → b ≤ top → b / 2 ^ 32 ≤ 0x3fe8_0000
      word b h = omega arith

  pub high-tiny : T (ltb (high_of (fin s m e)) 0x3e40_0000) → Within (fin s m e) 1 (2 ^ 26)
  high-tiny t = back (m * up e) (down e) (2 ^ 1074) (2 ^ 26) (2 ^ 1048) (down_pos e) (pow_pos 1048) refl
      (pattern_lt count (lt_of_le_of_lt (le_of_eq (sym high_is)) (ltb→lt (high_of (fin s m e)) 0x3e40_0000 t)))
    where
      back : (a d L K M : ℕ) → 0 < d → 0 < M → L ≡ K * M → a * L / d < M → a * K ≤ 1 * d
      back a d L K M D P e h =
          le_of_mul-le-mul_right {k = M} (omega (arith, lt-div-mul-add {a = a * L} D, mul-le-mul_right d h, ap (λ (z : ℕ). a * z) e)) P

-- ---- a pattern below that of 1 / 4 is a value of at most 1 / 4
value_within : (x : Float) (s : Bool) (a c : ℕ) → 0 < c → HasValue x s a c → a * 4 ≤ 1 * c → Within x 1 4
value_within nan s a c p v l = absurd v
value_within (inf t) s a c p v l = absurd v
value_within (fin t m e) s a c p v l = transfer (m * up e) 1 (down e) 4 a 1 c 4 p (lit< tt) v.1 refl l

fields_within : (x t : ℕ) → x < 1021 → t < 2 ^ 52 → Within (of_fields binary64 false x t) 1 4
unfolding of_fields
fields_within zero t h l = value_within (odd 53 false t 0 1074) false (t * 2 ^ 0) (2 ^ 1074) (pow_pos 1074) (odd_sign 53 false t 0 1074)
    (small (2 ^ 1074) (lit≤ tt))
  where
    small : (M : ℕ) → 2 ^ 54 ≤ M → t * 1 * 4 ≤ 1 * M
    small M i = omega arith
fields_within (suc x) t h l =
    rw (ne_eqb (suc x) 2047 (λ (e : suc x ≡ 2047). omega arith))
    (value_within (odd 53 false (2 ^ 52 + t) x 1074) false ((2 ^ 52 + t) * 2 ^ x) (2 ^ 1074) (pow_pos 1074)
    (odd_sign 53 false (2 ^ 52 + t) x 1074)
    (le_trans (mul-le-mul_right 4 (mul-le-mul (most t l) (pow_mono (fewer x h)))) (lit≤ tt)))
  where
    most : (t : ℕ) → t < 2 ^ 52 → 2 ^ 52 + t ≤ 2 ^ 53
    most t l = omega arith

    fewer : (x : ℕ) → suc x < 1021 → x ≤ 1019
    fewer x h = omega arith

bits_within : (b : ℕ) → b < 1021 * 2 ^ 52 → Within (of_bits binary64 b) 1 4
unfolding of_bits
bits_within b h = rw (lt-leb (2 ^ 63) b (lt_of_lt_of_le h (lit≤ tt)))
    (fields_within (b % 2 ^ 63 / 2 ^ 52) (b % 2 ^ 52) (field b h) (mod-lt b (pow_pos 52)))
  where
    field : (b : ℕ) → b < 1021 * 2 ^ 52 → b % 2 ^ 63 / 2 ^ 52 < 1021
    field b h = omega arith

pub quarter_within : (ix : ℕ) → ix ≤ 0x3fe8_0000 → Within (quarter_of ix) 1 4
unfolding quarter_of
quarter_within ix h = rw (le-ltb 0x3fe9_0000 ix (le_trans h (lit≤ tt))) (bits_within ((ix - 0x0020_0000) * 2 ^ 32) (omega arith))
