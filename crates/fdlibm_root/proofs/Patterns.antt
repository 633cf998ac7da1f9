-- From the pattern of a float above 0 to the whole number whose root `sqrt_of` rounds.
use Rattle.prelude.proofs.Logic.{◌≡◌, refl, sym, ap, ◌∙◌, subst, Bool, true, false, cond, false≢true, inl, inr, ℕ, zero, suc, ◌+◌, ◌-◌, ◌*◌}
use Rattle.prelude.proofs.Logic.{◌/◌, ◌%◌, ◌^◌, ◌≤◌, ◌<◌, add_comm, eq-zero-or-pos, lt_irrefl, mod-eq_of_lt, mul_assoc, mul-div_cancel}
use Rattle.prelude.proofs.Logic.{mul-one, mul-pos, mul_right_comm, arith, T, leb, eqb, pos, pow-add, pow_pos, leb-false, eqb-true}
use Rattle.prelude.proofs.Ieee.{Float, nan, inf, fin, binary64, up, down, fits, lt, odd, of_fields, of_bits, to_bits, down_pos, HasValue}
use Rattle.prelude.proofs.Ieee.{odd_sign, of_bits-to_bits, positive, positive_of_value}
use Rattle.fdlibm_root.specs.Root.{rounded_root, sqrt_of}

-- ---- what the fields of a pattern say of a float above 0
abbrev pub Above : Float → Type 0
Above x = lt (fin false 0 (pos 0)) x ≡ true

not_negative : (x : Float) (a c : ℕ) → HasValue x true a c → Above x → ⊥
unfolding lt
not_negative (fin true m e) a c v h = false≢true h
not_negative (fin false m e) a c v h = false≢true v.0
not_negative nan a c v h = elim v [ ]
not_negative (inf _) a c v h = elim v [ ]

no_sign : (s : Bool) (E t : ℕ) → Above (of_fields binary64 s E t) → s ≡ false
unfolding of_fields lt
no_sign false E t h = refl
no_sign true zero t h = absurd (not_negative (odd 53 true t 0 1074) (t * 2 ^ 0) (2 ^ 1074) (odd_sign 53 true t 0 1074) h)
no_sign true (suc E) t h = absurd (go (eqb (suc E) 2047) (eqb t 0) h)
  where
    go : (a b : Bool) → Above (cond a (cond b (inf true) nan) (odd 53 true (2 ^ 52 + t) E 1074)) → ⊥
    go true true h = false≢true h
    go true false h = false≢true h
    go false b h = not_negative (odd 53 true (2 ^ 52 + t) E 1074) ((2 ^ 52 + t) * 2 ^ E) (2 ^ 1074) (odd_sign 53 true (2 ^ 52 + t) E 1074) h

subnormal_value : (t : ℕ) → HasValue (of_fields binary64 false 0 t) false t (2 ^ 1074)
unfolding of_fields
subnormal_value t = subst (λ (z : ℕ). HasValue (odd 53 false t 0 1074) false z (2 ^ 1074)) (mul-one t) (odd_sign 53 false t 0 1074)

normal_value : (E t : ℕ) → 0 < E → E < 2047 → HasValue (of_fields binary64 false E t) false ((2 ^ 52 + t) * 2 ^ (E - 1)) (2 ^ 1074)
unfolding of_fields
normal_value zero t h k = absurd (lt_irrefl 0 h)
normal_value (suc E) t h k =
    subst (λ (z : ℕ). HasValue (of_fields binary64 false (suc E) t) false ((2 ^ 52 + t) * 2 ^ z) (2 ^ 1074)) (less E)
    (go (eqb (suc E) 2047) refl)
  where
    less : (E : ℕ) → E ≡ suc E - 1
    less E = omega arith

    go : (b : Bool) → eqb (suc E) 2047 ≡ b
        → HasValue (cond b (cond (eqb t 0) (inf false) nan) (odd 53 false (2 ^ 52 + t) E 1074)) false ((2 ^ 52 + t) * 2 ^ E) (2 ^ 1074)
    go true e = absurd (lt_irrefl 2047 (subst (λ (z : ℕ). z < 2047) (eqb-true (suc E) 2047 e) k))
    go false e = odd_sign 53 false (2 ^ 52 + t) E 1074

infinite : (t : ℕ) → Above (of_fields binary64 false 2047 t) → of_fields binary64 false 2047 t ≡ inf false
unfolding of_fields lt
infinite t h = go (eqb t 0) h
  where
    go : (b : Bool) → Above (cond b (inf false) nan) → cond b (inf false) nan ≡ inf false
    go true h = refl
    go false h = absurd (false≢true h)

fields_of : (x : Float) → fits binary64 x ≡ true → Above x
    → (to_bits binary64 x < 2 ^ 63) × (x ≡ of_fields binary64 false (to_bits binary64 x / 2 ^ 52) (to_bits binary64 x % 2 ^ 52))
unfolding of_bits
fields_of x h up =
    let b = to_bits binary64 x in
    let back : of_fields binary64 (leb (2 ^ 63) b) (b % 2 ^ 63 / 2 ^ 52) (b % 2 ^ 52) ≡ x = of_bits-to_bits binary64 x (subst T (sym h) tt) in
    let sign : leb (2 ^ 63) b ≡ false = no_sign (leb (2 ^ 63) b) (b % 2 ^ 63 / 2 ^ 52) (b % 2 ^ 52) (subst Above (sym back) up) in
    let small : b < 2 ^ 63 = leb-false (2 ^ 63) b sign in (
      small,
      sym back
          ∙ ap (λ (z : Bool). of_fields binary64 z (b % 2 ^ 63 / 2 ^ 52) (b % 2 ^ 52)) sign
          ∙ ap (λ (z : ℕ). of_fields binary64 false (z / 2 ^ 52) (b % 2 ^ 52)) (mod-eq_of_lt small),
    )

-- ---- the root of w smallest floats
pub value_root : (x : Float) (w : ℕ) → 0 < w → HasValue x false w (2 ^ 1074) → sqrt_of x ≡ rounded_root (w * 2 ^ 126)
unfolding sqrt_of
value_root x w h v = go x v (positive_of_value x w (2 ^ 1074) v h)
  where
    go : (x : Float) → HasValue x false w (2 ^ 1074) → T (positive x) → sqrt_of x ≡ rounded_root (w * 2 ^ 126)
    go (fin true m e) v p = absurd p
    go (fin false zero e) v p = absurd p
    go (fin false (suc m) e) v p =
        let whole : suc m * up e * 2 ^ 1200 ≡ w * 2 ^ 126 * down e =
        sym (mul_assoc (suc m * up e) (2 ^ 1074) (2 ^ 126)) ∙ ap (λ (z : ℕ). z * 2 ^ 126) v.1 ∙ mul_right_comm w (down e) (2 ^ 126) in
        ap rounded_root (ap (λ (z : ℕ). z / down e) whole ∙ mul-div_cancel (w * 2 ^ 126) (down_pos e))
    go nan v p = elim v [ ]
    go (inf _) v p = elim v [ ]

-- ---- the branches of `sqrt`
none : Above (of_fields binary64 false 0 0) → ⊥
unfolding of_fields lt
none h = false≢true h

own : inf false ≡ sqrt_of (inf false)
unfolding sqrt_of
own = refl

module _ (x : Float) (h : fits binary64 x ≡ true) (up : Above x) where
  pub not-zero : 0 < to_bits binary64 x
  not-zero =
      elim (eq-zero-or-pos (to_bits binary64 x)) [
        | inl z ↦ absurd (none (subst Above ((fields_of x h up).1 ∙ ap (λ (b : ℕ). of_fields binary64 false (b / 2 ^ 52) (b % 2 ^ 52)) z) up))
        | inr p ↦ p
      ]

  pub subnormal-root : to_bits binary64 x < 2 ^ 52 → sqrt_of x ≡ rounded_root (to_bits binary64 x * 2 ^ 126)
  subnormal-root small =
      let b = to_bits binary64 x in let E : b / 2 ^ 52 ≡ 0 = omega arith in
      let is : x ≡ of_fields binary64 false 0 b =
      (fields_of x h up).1 ∙ ap (λ (z : ℕ). of_fields binary64 false z (b % 2 ^ 52)) E
      ∙ ap (λ (z : ℕ). of_fields binary64 false 0 z) (mod-eq_of_lt small) in
      value_root x b not-zero (subst (λ (z : Float). HasValue z false b (2 ^ 1074)) (sym is) (subnormal_value b))

  pub normal-root : 2 ^ 52 ≤ to_bits binary64 x → to_bits binary64 x < 0x7ff0_0000_0000_0000
      → sqrt_of x ≡ rounded_root ((to_bits binary64 x % 2 ^ 52 + 2 ^ 52) * 2 ^ (to_bits binary64 x / 2 ^ 52 + 1023 - 898))
  normal-root lo hi =
      let b = to_bits binary64 x in let E = b / 2 ^ 52 in let t = b % 2 ^ 52 in let w = (2 ^ 52 + t) * 2 ^ (E - 1) in
      let value : HasValue x false w (2 ^ 1074) =
      subst (λ (z : Float). HasValue z false w (2 ^ 1074)) (sym (fields_of x h up).1) (normal_value E t (omega arith) (omega arith)) in
      let exponent : E - 1 + 126 ≡ E + 1023 - 898 = omega arith in
      let scaled : w * 2 ^ 126 ≡ (2 ^ 52 + t) * 2 ^ (E + 1023 - 898) =
      mul_assoc (2 ^ 52 + t) (2 ^ (E - 1)) (2 ^ 126)
      ∙ ap (λ (z : ℕ). (2 ^ 52 + t) * z) (sym (pow-add 2 (E - 1) 126) ∙ ap (λ (z : ℕ). 2 ^ z) exponent) in
      value_root x w (mul-pos (omega arith) (pow_pos (E - 1))) value
      ∙ ap rounded_root (scaled ∙ ap (λ (z : ℕ). z * 2 ^ (E + 1023 - 898)) (add_comm (2 ^ 52) t))

  pub infinite-root : 0x7ff0_0000_0000_0000 ≤ to_bits binary64 x → x ≡ sqrt_of x
  infinite-root lo =
      let b = to_bits binary64 x in let E : b / 2 ^ 52 ≡ 2047 = omega (arith, (fields_of x h up).0) in
      let is : x ≡ of_fields binary64 false 2047 (b % 2 ^ 52) = (fields_of x h up).1
      ∙ ap (λ (z : ℕ). of_fields binary64 false z (b % 2 ^ 52)) E in
      let inf : x ≡ inf false = is ∙ infinite (b % 2 ^ 52) (subst Above is up) in
      inf ∙ own ∙ ap sqrt_of (sym inf)
