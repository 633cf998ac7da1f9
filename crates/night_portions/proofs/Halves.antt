-- Any portion from 0 to a half of d seconds is cut to at most half of d. Each cast gives the same number, with the sign of the night.
-- Assumes nothing.
use Rattle.prelude.proofs.Logic.{◌≡◌, refl, sym, ap, ◌∙◌, subst, Bool, true, false, not, ℕ, ◌*◌, ◌^◌, ◌≤◌, ◌<◌, zero-mul, arith, lit<, lit≤}
use Rattle.prelude.proofs.Logic.{ℤ}
use Rattle.float64.proofs.Floats.{Float, nan, inf, fin, binary64, up, down, unlike, round, neg, to_signed, HasValue, round_whole, down_pos}
use Rattle.float64.proofs.Floats.{◌*ᶠ◌, mul_same, Within, Signed, round-signed, value_within, neg_within, mul_within, FromZero, whole_size}
use Rattle.float64.proofs.Floats.{signed, whole_most, whole_neg, cast_is}

-- x is at most d / 2 in size: its casts, and those of its opposite, to any integers that hold d
pub record Halved (x : Float) (s : Bool) (d : ℕ) : Type 0 where
  pub whole : ℕ
  pub half : whole * 2 ≤ d
  pub cast : (h : ℕ) → d ≤ 2 ^ h → 0 < 2 ^ h → to_signed h x ≡ signed s whole
  pub opposite : (h : ℕ) → d ≤ 2 ^ h → 0 < 2 ^ h → to_signed h (neg x) ≡ signed (not s) whole

neg_signed : (s : Bool) (x : Float) → Signed s x → Signed (not s) (neg x)
unfolding neg
neg_signed s nan g = absurd g
neg_signed s (inf t) g = ap not g
neg_signed s (fin t m e) g = ap not g

halved : (s : Bool) (x : Float) (d : ℕ) → Signed s x → Within x d 2 → Halved x s d
halved s x d g w =
    let l = whole_most x d 2 w in
    record {
      whole = whole_size x;
      half = l;
      cast = λ h r p. cast_is h s x g d 2 w (omega arith);
      opposite = λ h r p. cast_is h (not s) (neg x) (neg_signed s x g) d 2 (neg_within x d 2 w) (rw (whole_neg x) (omega arith))
          ∙ ap (signed (not s)) (whole_neg x);
    }

-- a zero has no sign
unsigned_zero : (s t : Bool) (n : ℕ) → n ≡ 0 → signed s n ≡ signed t n
unsigned_zero true true n z = refl
unsigned_zero false false n z = refl
unsigned_zero true false n z = rw z
unsigned_zero false true n z = rw z

halved_zero : (s t : Bool) (x : Float) (d : ℕ) → Halved x s 0 → Halved x t d
halved_zero s t x d k =
    let l = k.half in
    record {
      whole = k.whole;
      half = omega arith;
      cast = λ h r p. k.cast h (omega arith) p ∙ unsigned_zero s t k.whole (omega arith);
      opposite = λ h r p. k.opposite h (omega arith) p ∙ unsigned_zero (not s) (not t) k.whole (omega arith);
    }

-- ---- a portion of a night of d seconds with the sign t
module _ (t : Bool) (d : ℕ) (r : d ≤ 2 ^ 31) where
  -- the night as a float
  unfoldable pub night : Float
  night = round binary64 t d 1

  night-value : HasValue night t d 1
  unfolding night
  night-value = round_whole binary64 t d (omega arith)

  product-signed : (s : Bool) (m : ℕ) (e : ℤ) → Signed (unlike s t) (fin s m e *ᶠ night)
  unfolding night
  product-signed s m e =
      subst (Signed (unlike s t))
      (sym (mul_same binary64 (fin s m e) night s t (m * up e) d (down e) 1 (down_pos e) (lit< tt) (refl, refl) night-value))
      (round-signed (m * up e * d) (down e * 1) (unlike s t))

  pub product-halved : (p : Float) → FromZero p 1 2 → Halved (p *ᶠ night) t d
  unfolding night
  product-halved nan f = absurd f
  product-halved (inf s) f = absurd f
  product-halved (fin false m e) f =
      halved t (fin false m e *ᶠ night) d
      (subst (λ (u : Bool). Signed u (fin false m e *ᶠ night)) (unlike_plus t) (product-signed false m e))
      (mul_within (fin false m e) night 1 d 2 1 d 1 (lit< tt) (lit< tt) f (value_within night t d 1 night-value) (omega arith) (lit≤ tt)
      (omega arith))
    where
      unlike_plus : (s : Bool) → unlike false s ≡ s
      unlike_plus true = refl
      unlike_plus false = refl
  product-halved (fin true m e) f =
      halved_zero (unlike true t) t (fin true m e *ᶠ night) d
      (halved (unlike true t) (fin true m e *ᶠ night) 0 (product-signed true m e)
      (mul_within (fin true m e) night 0 d 1 1 0 1 (lit< tt) (lit< tt) (let z = ap (λ (i : ℕ). i * up e) f ∙ zero-mul (up e) in omega arith)
      (value_within night t d 1 night-value) (lit< tt) (lit≤ tt) (omega arith)))
