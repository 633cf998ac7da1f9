-- The whole part of a float of known size, its cast, and the whole number nearest to it. Assumes nothing.
use Rattle.prelude.proofs.Logic.{◌≡◌, refl, sym, ap, Bool, true, false, cond, true≢false, false≢true, ℕ, ◌+◌, ◌*◌, ◌/◌, ◌^◌, ◌≤◌}
use Rattle.prelude.proofs.Logic.{◌<◌, mul-one, lt_of_mul-lt-mul_right, mul_right_comm, div-mul-le_self, mul-le-mul_right}
use Rattle.prelude.proofs.Logic.{le_of_mul-le-mul_right, le_trans, le_of_lt, le_of_eq, min-eq_left, div-add-mod'}
use Rattle.prelude.proofs.Logic.{le-div_iff_mul-le, arith, T, ltb, eqb, ℤ, pos, neg_ℤ, le_ones, eqb-false}
use Rattle.prelude.proofs.Ieee.{Float, nan, inf, fin, binary64, up, down, neg, le, of_int, to_signed, HasValue, round_whole, down_pos}
use Rattle.prelude.proofs.Ieee.{div_same, transfer}
use Rattle.float64.specs.Whole.{round_of, whole_part, fraction, half_up}
use Rattle.float64.proofs.Values.{big}
use Rattle.float64.proofs.Within.{Within, Signed, le_sizes, value_within, neg_within, widen}

-- the whole part of x's size; 0 if there is none
abbrev pub whole_size : Float → ℕ
whole_size nan = 0
whole_size (inf s) = 0
whole_size (fin s m e) = whole_part m e

-- n with a sign
abbrev pub signed : Bool → ℕ → ℤ
signed s n = cond s (neg_ℤ (pos n)) (pos n)

pub whole_most : (x : Float) (a c : ℕ) → Within x a c → whole_size x * c ≤ a
whole_most nan a c h = absurd h
whole_most (inf s) a c h = absurd h
whole_most (fin s m e) a c h =
    let k : m * up e / down e * down e ≤ m * up e = div-mul-le_self (m * up e) (down e) in
    le_of_mul-le-mul_right {k = down e}
    (le_trans (le_of_eq (mul_right_comm (m * up e / down e) c (down e))) (le_trans (mul-le-mul_right c k) h)) (down_pos e)

pub whole_least : (x y : Float) (a n c : ℕ) → HasValue x false a 1 → T (le x y) → Signed false y → Within y n c → a ≤ whole_size y
unfolding le
whole_least x nan a n c v l s w = absurd s
whole_least x (inf t) a n c v l s w = absurd w
whole_least x (fin true m e) a n c v l s w = absurd (true≢false s)
whole_least nan (fin false m e) a n c v l s w = absurd v
whole_least (inf t) (fin false m e) a n c v l s w = absurd v
whole_least (fin true k d) (fin false m e) a n c v l s w = absurd (true≢false v.0)
whole_least (fin false k d) (fin false m e) a n c v l s w =
    (le-div_iff_mul-le (down_pos e)).1
    (le_trans (transfer a (m * up e) 1 (down e) (k * up d) (m * up e) (down d) (down e) (down_pos d) (down_pos e) (sym v.1) refl
    (le_sizes (k * up d * down e) (m * up e * down d) true l)) (le_of_eq (mul-one (m * up e))))

pub whole_value : (x : Float) (s : Bool) (a c : ℕ) → 0 < c → HasValue x s a c → whole_size x ≡ a / c
whole_value nan s a c p v = absurd v
whole_value (inf t) s a c p v = absurd v
whole_value (fin t m e) s a c p v = div_same (m * up e) (down e) a c (down_pos e) p v.1

pub whole_neg : (x : Float) → whole_size (neg x) ≡ whole_size x
unfolding neg
whole_neg nan = refl
whole_neg (inf s) = refl
whole_neg (fin s m e) = refl

-- if a cast does not saturate, it is the whole part with the sign
pub cast_is : (h : ℕ) (s : Bool) (x : Float) → Signed s x → (a c : ℕ) → Within x a c → whole_size x < 2 ^ h
    → to_signed h x ≡ signed s (whole_size x)
unfolding to_signed
cast_is h s nan g a c w l = absurd w
cast_is h s (inf t) g a c w l = absurd w
cast_is h true (fin true m e) g a c w l = ap (λ (n : ℕ). neg_ℤ (pos n)) (min-eq_left (le_of_lt l))
cast_is h false (fin false m e) g a c w l = ap pos (min-eq_left (le_ones h l))
cast_is h true (fin false m e) g a c w l = absurd (false≢true g)
cast_is h false (fin true m e) g a c w l = absurd (true≢false g)

-- if x is within a whole bound, so is the whole number nearest to it
pub nearest_within : (x : Float) (a : ℕ) → a < big → Within x a 1 → Within (round_of x) a 1
unfolding round_of
nearest_within nan a p h = absurd h
nearest_within (inf s) a p h = absurd h
nearest_within (fin s m e) a p h = go (eqb (fraction m e) 0) refl
  where
    by-half : (t : Bool) → (fraction m e ≡ 0 → ⊥) → cond t (whole_part m e) (whole_part m e + 1) ≤ a
    by-half t z =
        let q = div-add-mod' (m * up e) (down e) in
        let l : whole_part m e < a = lt_of_mul-lt-mul_right (down e) (omega arith) in
        one t l
      where
        one : (t : Bool) → whole_part m e < a → cond t (whole_part m e) (whole_part m e + 1) ≤ a
        one true l = le_of_lt l
        one false l = omega arith

    int : (n : ℕ) → n ≤ a → Within (of_int binary64 (pos n)) a 1
    int n l = widen (of_int binary64 (pos n)) n a 1 l
        (value_within (of_int binary64 (pos n)) false n 1 (unfold of_int in round_whole binary64 false n (omega arith)))

    sign : (u : Bool) (x : Float) → Within x a 1 → Within (cond u (neg x) x) a 1
    sign true x w = neg_within x a 1 w
    sign false x w = w

    go : (t : Bool) → eqb (fraction m e) 0 ≡ t
        → Within (cond t (fin s m e) (cond s (neg (of_int binary64 (pos (half_up m e)))) (of_int binary64 (pos (half_up m e))))) a 1
    go true i = h
    go false i = sign s (of_int binary64 (pos (half_up m e)))
        (int (half_up m e) (by-half (ltb (2 * fraction m e) (down e)) (eqb-false (fraction m e) 0 i)))
