-- (x + 2 ^ 52) - 2 ^ 52, for 0 ≤ x < 2 ^ 52: a whole number that is on the same side of every whole number as x.
-- The sum is rounded into [2 ^ 52, 2 ^ 53]. All floats there are whole numbers, and rounding keeps the order. The difference is exact.
-- Assumes nothing.
use Rattle.prelude.proofs.Logic.{◌≡◌, refl, sym, true, false, ℕ, suc, ◌+◌, ◌-◌, ◌*◌, ◌^◌, ◌≤◌, ◌<◌, mul-one, add-mul}
use Rattle.prelude.proofs.Logic.{le_of_mul-le-mul_right, arith, T, lit<, lit≤, ℤ, pos, negsuc}
use Rattle.prelude.proofs.Ieee.{Float, nan, inf, fin, binary64, up, down, fits, of_bits, round, add, sub, le, HasValue, round_whole}
use Rattle.prelude.proofs.Ieee.{down_pos, round-fits, round_mono, positive, positive_of_value, values_of_le, between}
use Rattle.float64.proofs.Values.{big, fraction_below}
use Rattle.float64.proofs.Exact.{add_same, sub_same}

-- 2 ^ 52
abbrev pub W : ℕ
W = 4503599627370496

-- the code's constant
abbrev pub whole64 : Float
whole64 = of_bits binary64 0x4330_0000_0000_0000

pub whole64_value : (c : ℕ) → HasValue whole64 false (W * c) c
unfolding of_bits
whole64_value c = (refl, sym (mul-one (W * c)))

-- n as a float
abbrev pub at : ℕ → Float
at n = round binary64 false n 1

pub at_value : (n : ℕ) → n ≤ big → HasValue (at n) false n 1
at_value n h = round_whole binary64 false n h

at_positive : (n : ℕ) → 0 < n → n ≤ big → T (positive (at n))
at_positive n p h = positive_of_value (at n) n 1 (at_value n h) p

-- a float from 2 ^ 52 on has no fraction
whole_from : (y : Float) → T (fits binary64 y) → T (positive y) → T (le (at W) y) → (w : ℕ) × HasValue y false w 1
whole_from nan h p l = absurd p
whole_from (inf s) h p l = absurd p
whole_from (fin true m e) h p l = absurd p
whole_from (fin false m (pos k)) h p l = (m * 2 ^ k, (refl, refl))
whole_from (fin false m (negsuc k)) h p l =
    let v = values_of_le (at W) (fin false m (negsuc k)) W 1 (m * 1) (2 ^ suc k) (at_positive W (lit< tt) (lit≤ tt)) p
    (at_value W (lit≤ tt)) (refl, refl) l in
    absurd (omega (arith, fraction_below false m k h))

-- k is a whole number, and every whole number that is on one side of a / d is on that side of k
pub record Near (k : Float) (a d : ℕ) : Type 0 where
  pub z : ℕ
  pub is : k ≡ at z
  pub least : (n : ℕ) → n * d ≤ a → n ≤ z
  pub most : (n : ℕ) → n ≤ W → a ≤ n * d → z ≤ n

module _ (m : ℕ) (e : ℤ) (small : m * up e < W * down e) where
  a : ℕ
  a = m * up e

  d : ℕ
  d = down e

  -- the sum, rounded
  s : Float
  s = round binary64 false (a + W * d) d

  s-is : add binary64 (fin false m e) whole64 ≡ s
  unfolding a d s
  s-is = add_same binary64 a (W * d) d (down_pos e) (fin false m e) whole64 (refl, refl) (whole64_value d)

  over : (n : ℕ) → n * d ≤ a → T (le (at (n + W)) s)
  unfolding a d s
  over n h = round_mono binary64 (n + W) 1 (a + W * d) d (lit< tt) (down_pos e) (rw (add-mul n W d) (omega arith))

  under : (n : ℕ) → a ≤ n * d → T (le s (at (n + W)))
  unfolding a d s
  under n h = round_mono binary64 (a + W * d) d (n + W) 1 (down_pos e) (lit< tt) (rw (add-mul n W d) (omega arith))

  s-positive : T (positive s)
  unfolding a d s
  s-positive = between (at W) s (at (W + W)) (at_positive W (lit< tt) (lit≤ tt)) (at_positive (W + W) (lit< tt) (lit≤ tt))
      (over 0 (omega arith)) (under W (omega arith))

  w : (n : ℕ) × HasValue s false n 1
  unfolding a d s
  w = whole_from s (round-fits binary64 false (a + W * d) d) s-positive (over 0 (omega arith))

  reach : (n : ℕ) → n * d ≤ a → n ≤ W
  unfolding a d
  reach n h = le_of_mul-le-mul_right {k = d} (omega arith) (down_pos e)

  pub near : Near (sub binary64 (add binary64 (fin false m e) whole64) whole64) (m * up e) (down e)
  unfolding a d s
  near =
      let v = w.1 in
      let least : (n : ℕ) → n * d ≤ a → n + W ≤ w.0 = λ n h.
      let l = reach n h in
      let g = values_of_le (at (n + W)) s (n + W) 1 w.0 1 (at_positive (n + W) (omega arith) (omega arith)) s-positive
      (at_value (n + W) (omega arith)) v (over n h) in
      omega arith in
      let base = least 0 (omega arith) in
      record {
        z = w.0 - W;
        is = rw s-is (sub_same binary64 w.0 W 1 (lit< tt) (omega arith) s whole64 v (whole64_value 1));
        least = λ n h. let l = least n h in omega arith;
        most = λ n l h.
            let g = values_of_le s (at (n + W)) w.0 1 (n + W) 1 s-positive (at_positive (n + W) (omega arith) (omega arith)) v
            (at_value (n + W) (omega arith)) (under n h) in
            omega arith;
      }
