-- From the whole number near x to the one below, the one above and the nearest, for 0 < x < 2 ^ 52. A test is added as 0 or 1. Assumes
-- nothing.
use Rattle.prelude.proofs.Logic.{◌≡◌, refl, sym, ap, ◌∙◌, Bool, true, false, not, cond, false≢true, ℕ, suc, ◌+◌, ◌-◌, ◌*◌, ◌%◌, ◌^◌, ◌≤◌}
use Rattle.prelude.proofs.Logic.{◌<◌, one-mul, mul_comm, mod-one, mod-le, div-add-mod', div-mul-le_self, le-div_iff_mul-le}
use Rattle.prelude.proofs.Logic.{div-lt_iff_lt-mul, mul-le-mul_right, lt_of_mul-lt-mul_right, pos_of_ne-zero, add-zero, arith, T, ltb, eqb}
use Rattle.prelude.proofs.Logic.{lit<, lit≤, ℤ, pos, negsuc, ltb-true, ltb-false, eqb-true, eqb-false, le-ltb, bool_byte}
use Rattle.prelude.proofs.Ieee.{Float, nan, inf, fin, binary64, up, down, fits, of_bits, of_int, round, neg, lt, add, sub, HasValue}
use Rattle.prelude.proofs.Ieee.{round_whole, down_pos, round-fits, neg-fits}
use Rattle.float64.specs.Whole.{floor_of, trunc_of, round_of, whole_part, fraction, half_up}
use Rattle.float64.proofs.Values.{big, value_unique, dyadic_value, digits, places, over, lt_values}
use Rattle.float64.proofs.Exact.{sub_same, add_dyadic, sub_dyadic}
use Rattle.float64.proofs.Near.{W, at, at_value, Near, near, whole64, whole64_value}
use Rattle.float64.proofs.Parts.{own_whole, zero64}

-- a test as the code adds it
abbrev bit : Bool → Float
bit b = of_int binary64 (pos (bool_byte b))

abbrev half : Float
half = of_bits binary64 0x3fe0_0000_0000_0000

bit_small : (b : Bool) → bool_byte b < big
bit_small true = lit< tt
bit_small false = lit< tt

less : (z : ℕ) (b : Bool) → z ≤ W → bool_byte b ≤ z → sub binary64 (at z) (bit b) ≡ at (z - bool_byte b)
unfolding of_int
less z b h l = sub_dyadic 0 z (bool_byte b) (lit≤ tt) (omega arith) l

more : (z : ℕ) (b : Bool) → z ≤ W → add binary64 (at z) (bit b) ≡ at (z + bool_byte b)
unfolding of_int
more z b h = add_dyadic 0 z (bool_byte b) (lit≤ tt) (omega arith) (bit_small b)

neg_value : (x : Float) (a c : ℕ) → HasValue x false a c → HasValue (neg x) true a c
unfolding neg
neg_value nan a c v = absurd v
neg_value (inf s) a c v = absurd v
neg_value (fin s m e) a c v = (ap not v.0, v.1)

pub neg_at : (n : ℕ) → n ≤ big → neg (at n) ≡ round binary64 true n 1
neg_at n h =
    value_unique binary64 (neg (at n)) (round binary64 true n 1) true n 1 (lit< tt)
    (neg-fits binary64 (at n) (round-fits binary64 false n 1)) (round-fits binary64 true n 1)
    (neg_value (at n) n 1 (at_value n h)) (round_whole binary64 true n h)

module _ (m : ℕ) (e : ℤ) (fit : T (fits binary64 (fin false m e))) (small : m * up e < W * down e) where
  abbrev a : ℕ
  a = m * up e

  abbrev d : ℕ
  d = down e

  abbrev q : ℕ
  q = whole_part m e

  -- a is from q * d to below (q + 1) * d
  q-small : q < W
  q-small = (div-lt_iff_lt-mul (down_pos e)).1 small

  q-under : q * d ≤ a
  q-under = div-mul-le_self a d

  q-over : a < suc q * d
  q-over = (div-lt_iff_lt-mul {k = d} {x = a} {y = suc q} (down_pos e)).0 (omega arith)

  whole : fraction m e ≡ 0 → at q ≡ fin false m e
  whole = own_whole m e fit (let l = q-small in omega arith)

  pub trunc-at : trunc_of (fin false m e) ≡ at q
  unfolding trunc_of of_int
  trunc-at = go (eqb (fraction m e) 0) refl
    where
      go : (t : Bool) → eqb (fraction m e) 0 ≡ t → cond t (fin false m e) (at q) ≡ at q
      go true h = sym (whole (eqb-true (fraction m e) 0 h))
      go false h = refl

  module _ (k : Float) (n : Near k (m * up e) (down e)) where
    abbrev z : ℕ
    z = n.z

    z-small : z ≤ W
    z-small = n.most W (omega arith) (omega arith)

    z-under : q ≤ z
    z-under = n.least q q-under

    z-over : z ≤ suc q
    z-over = let l = q-small in let h = q-over in n.most (suc q) (omega arith) (omega arith)

    z-value : HasValue (at z) false z 1
    z-value = let l = z-small in at_value z (omega arith)

    lower-is : sub binary64 k (bit (lt (fin false m e) k)) ≡ trunc_of (fin false m e)
    lower-is =
        let g = go (ltb (a * 1) (z * d)) refl in
        rw (n.is, lt_values (fin false m e) (at z) a z d 1 (down_pos e) (lit< tt) (refl, refl) z-value)
        (less z (ltb (a * 1) (z * d)) z-small g.0 ∙ ap at g.1 ∙ sym trunc-at)
      where
        go : (t : Bool) → ltb (a * 1) (z * d) ≡ t → (bool_byte t ≤ z) × (z - bool_byte t ≡ q)
        go true h =
            let l = ltb-true (a * 1) (z * d) h in let u : q < z = (div-lt_iff_lt-mul (down_pos e)).1 (omega arith) in
            let o = z-over in
            (omega arith, omega arith)
        go false h =
            let l = ltb-false (a * 1) (z * d) h in let u : z ≤ q = (le-div_iff_mul-le (down_pos e)).1 (omega arith) in
            let o = z-under in
            (omega arith, omega arith)

    -- z plus 1 if z is below x
    counted : (t u : Bool) → eqb (fraction m e) 0 ≡ t → ltb (z * d) (a * 1) ≡ u → z + bool_byte u ≡ cond t q (suc q)
    counted true u h i =
        let r = eqb-true (fraction m e) 0 h in let g = div-add-mod' a d in let l = q-small in
        let o : z ≤ q = n.most q (omega arith) (omega arith) in let p = z-under in let j : q * d ≤ z * d = mul-le-mul_right d p in
        rw (sym i ∙ le-ltb (z * d) (a * 1) (omega arith)) (omega arith)
    counted false true h i =
        let l = ltb-true (z * d) (a * 1) i in let o : z ≤ q = (le-div_iff_mul-le (down_pos e)).1 (omega arith) in let p = z-under in
        omega arith
    counted false false h i =
        let l = ltb-false (z * d) (a * 1) i in let r : 0 < fraction m e = pos_of_ne-zero (eqb-false (fraction m e) 0 h) in
        let g = div-add-mod' a d in let o : q < z = lt_of_mul-lt-mul_right d (omega arith) in let p = z-over in
        omega arith

    upper_is : neg (add binary64 k (bit (lt k (fin false m e)))) ≡ floor_of (fin true m e)
    unfolding floor_of of_int neg
    upper_is =
        let u = ltb (z * d) (a * 1) in let t = eqb (fraction m e) 0 in
        rw (n.is, lt_values (at z) (fin false m e) z a 1 d (lit< tt) (down_pos e) z-value (refl, refl))
        (ap neg (more z u z-small ∙ ap at (counted t u refl refl)) ∙ go t refl)
      where
        go : (t : Bool) → eqb (fraction m e) 0 ≡ t → neg (at (cond t q (suc q))) ≡ cond t (fin true m e) (round binary64 true (suc q) 1)
        go true h = ap neg (whole (eqb-true (fraction m e) 0 h))
        go false h = let l = q-small in neg_at (suc q) (omega arith)

  -- ---- the nearest: the fraction of x, and whether it is a half or more
  abbrev rest : Float
  rest = round binary64 false (fraction m e) (down e)

  rest-is : sub binary64 (fin false m e) (at q) ≡ rest
  rest-is =
      let l = q-small in let v = at_value q (omega arith) in let g = div-add-mod' a d in
      let r : a - q * d ≡ fraction m e = omega arith in
      sub_same binary64 a (q * d) d (down_pos e) q-under (fin false m e) (at q) (refl, refl) (over (at q) false q d v)
      ∙ ap (λ (i : ℕ). round binary64 false i d) r

  rest-value : HasValue rest false (fraction m e) (down e)
  rest-value = go e fit
    where
      go : (e : ℤ) → T (fits binary64 (fin false m e))
          → HasValue (round binary64 false (fraction m e) (down e)) false (fraction m e) (down e)
      go (pos j) f = rw (mod-one (m * 2 ^ j)) (dyadic_value false 0 0 (lit< tt) (lit≤ tt))
      go (negsuc j) f = dyadic_value false (m * 1 % 2 ^ suc j) (suc j)
          (let h = digits false m (negsuc j) f in let l = mod-le (m * 1) (2 ^ suc j) in omega arith) (places false m j f)

  half-up-is : add binary64 (at q) (bit (not (lt (sub binary64 (fin false m e) (at q)) half))) ≡ round_of (fin false m e)
  unfolding round_of of_int of_bits
  half-up-is =
      let u = ltb (fraction m e * 2) (1 * d) in
      rw (rest-is, lt_values rest half (fraction m e) 1 d 2 (down_pos e) (lit< tt) rest-value (refl, refl))
      (more q (not u) (let l = q-small in omega arith) ∙ go (eqb (fraction m e) 0) u refl refl)
    where
      last : (u : Bool) → q + bool_byte (not u) ≡ cond u q (q + 1)
      last true = add-zero q
      last false = refl

      go : (t u : Bool) → eqb (fraction m e) 0 ≡ t → ltb (fraction m e * 2) (1 * d) ≡ u
          → at (q + bool_byte (not u)) ≡ cond t (fin false m e) (at (half_up m e))
      go true true h i = ap at (add-zero q) ∙ whole (eqb-true (fraction m e) 0 h)
      go true false h i = absurd (omega (arith, eqb-true (fraction m e) 0 h, ltb-false (fraction m e * 2) (1 * d) i, down_pos e))
      go false u h i =
          let g : ltb (2 * fraction m e) d ≡ u = ap (λ (j : ℕ). ltb j d) (mul_comm 2 (fraction m e))
          ∙ ap (ltb (fraction m e * 2)) (sym (one-mul d)) ∙ i in
          rw g (ap at (last u))

-- ---- the same for a float that passed the code's tests
pub inside : (P : Float → Type 0) (b : ℕ) (y : Float) → HasValue y false b 1
    → ((m : ℕ) (e : ℤ) → T (fits binary64 (fin false m e)) → m * up e < b * down e → P (fin false m e))
    → (x : Float) → T (fits binary64 x) → lt zero64 x ≡ true → lt x y ≡ true → P x
unfolding lt of_bits
inside P b y v g nan f h k = absurd (false≢true h)
inside P b y v g (inf true) f h k = absurd (false≢true h)
inside P b nan v g (inf false) f h k = elim v [ ]
inside P b (inf _) v g (inf false) f h k = elim v [ ]
inside P b (fin s n c) v g (inf false) f h k = absurd (false≢true k)
inside P b y v g (fin true m e) f h k = absurd (false≢true h)
inside P b y v g (fin false m e) f h k =
    let l = ltb-true (m * up e * 1) (b * down e)
    (sym (lt_values (fin false m e) y (m * up e) b (down e) 1 (down_pos e) (lit< tt) (refl, refl) v) ∙ k) in
    g m e f (omega arith)

abbrev near64 : Float → Float
near64 x = sub binary64 (add binary64 x whole64) whole64

pub lower_at : (x : Float) → T (fits binary64 x) → lt zero64 x ≡ true → lt x whole64 ≡ true
    → sub binary64 (near64 x) (bit (lt x (near64 x))) ≡ trunc_of x
lower_at = inside (λ x. sub binary64 (near64 x) (bit (lt x (near64 x))) ≡ trunc_of x) W whole64 (whole64_value 1)
    (λ m e f l. lower-is m e f l (near64 (fin false m e)) (near m e l))

pub upper_at : (x : Float) → T (fits binary64 x) → lt zero64 x ≡ true → lt x whole64 ≡ true
    → neg (add binary64 (near64 x) (bit (lt (near64 x) x))) ≡ floor_of (neg x)
unfolding neg
upper_at = inside (λ x. neg (add binary64 (near64 x) (bit (lt (near64 x) x))) ≡ floor_of (neg x)) W whole64 (whole64_value 1)
    (λ m e f l. upper_is m e f l (near64 (fin false m e)) (near m e l))

pub half_up_at : (k x : Float) → k ≡ trunc_of x → T (fits binary64 x) → lt zero64 x ≡ true → lt x whole64 ≡ true
    → add binary64 k (bit (not (lt (sub binary64 x k) half))) ≡ round_of x
half_up_at k x e f h l =
    rw e
    (inside (λ x. add binary64 (trunc_of x) (bit (not (lt (sub binary64 x (trunc_of x)) half))) ≡ round_of x) W whole64 (whole64_value 1)
    (λ m e f l. rw (trunc-at m e f l) (half-up-is m e f l)) x f h l)
