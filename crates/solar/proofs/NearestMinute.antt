-- The nearest minute if minutes and seconds are both between 0 and 60: the whole minutes, and one more from 30 seconds on. Assumes
-- nothing.
use Rattle.prelude.proofs.Logic.{◌≡◌, refl, sym, ◌∙◌, Bool, true, false, not, ℕ, ◌+◌, ◌*◌, ◌^◌, ◌<◌, div-lt_iff_lt-mul, arith, T, ltb, eqb}
use Rattle.prelude.proofs.Logic.{eqb→eq, le→leb, lit<, bool_byte}
use lib.Ieee.{Float, fin, binary64, up, down, round, add, div, of_int, in_unsigned, in_float, to_unsigned, fits, lt}
use lib.Ieee.Back.{unsigned_back}
use lib.Ieee.Exact.{HasValue}
use lib.Ieee.Fits.{down_pos, mul-fits}
use Rattle.float64.specs.Ops.{◌+ᶠ◌, ◌*ᶠ◌, ◌/ᶠ◌, dec}
use Rattle.float64.specs.Whole.{floor_of, trunc_of, round_of, whole_part}
use Rattle.float64.proofs.Near.{at}
use Rattle.float64.proofs.Parts.{zero64, floor_positive}
use Rattle.float64.proofs.Steps.{inside, trunc-at}
use Rattle.float64.proofs.Values.{lt_values}
use Rattle.prelude.proofs.Computed as Computed
use Rattle.solar.proofs.Taken.{below_whole}

-- ---- for each k whole minutes and q whole seconds
nearest_test : ℕ → ℕ → Bool
nearest_test k q = eqb (k + bool_byte (not (ltb q 30))) (to_unsigned 32 (round_of (at k +ᶠ at q /ᶠ dec 60 0)))

all_nearest : T (Computed.below (λ k. Computed.below (nearest_test k) 60) 60)
unfolding nearest_test round_of to_unsigned dec round of_int add div
all_nearest = tt

nearest_whole : (k q : ℕ) → k < 60 → q < 60 → k + bool_byte (not (ltb q 30)) ≡ to_unsigned 32 (round_of (at k +ᶠ at q /ᶠ dec 60 0))
unfolding nearest_test
nearest_whole k q h l =
    eqb→eq _ _ (Computed.at (nearest_test k) 60 (Computed.at (λ k. Computed.below (nearest_test k) 60) 60 all_nearest k h) q l)

-- ---- a float between 0 and 60 has a whole part n below 60
minute_value : HasValue (dec 60 0) false 60 1
unfolding dec round
minute_value = (refl, refl)

half_value : HasValue (dec 30 0) false 30 1
unfolding dec round
half_value = (refl, refl)

record Under60 (x : Float) : Type 0 where
  n : ℕ
  small : n < 60
  is : trunc_of x ≡ at n
  early : lt x (dec 30 0) ≡ ltb n 30

under60 : (x : Float) → T (fits binary64 x) → lt zero64 x ≡ true → lt x (dec 60 0) ≡ true → Under60 x
under60 = inside Under60 60 (dec 60 0) minute_value
    (λ m e f l. record {
      n = whole_part m e;
      small = (div-lt_iff_lt-mul (down_pos e)).1 l;
      is = trunc-at m e f (omega (arith, l));
      early = lt_values (fin false m e) (dec 30 0) (m * up e) 30 (down e) 1 (down_pos e) (lit< tt) (refl, refl) half_value
          ∙ below_whole 30 m e;
    })

-- ---- a cast does not change the floored minutes; with one more from 30 seconds on they are the nearest
pub record Minute (k s : Float) : Type 0 where
  pub cast : T (in_unsigned binary64 32 k)
  pub room : to_unsigned 32 k + bool_byte (not (lt s (dec 30 0))) < 2 ^ 32
  pub is : to_unsigned 32 k + bool_byte (not (lt s (dec 30 0))) ≡ to_unsigned 32 (round_of (k +ᶠ floor_of s /ᶠ dec 60 0))

bool_byte_small : (b : Bool) → bool_byte b < 2
bool_byte_small true = lit< tt
bool_byte_small false = lit< tt

pub nearest_minute : (a b c d k : Float) → k ≡ floor_of (a *ᶠ b)
    → lt zero64 (a *ᶠ b) ≡ true → lt (a *ᶠ b) (dec 60 0) ≡ true → lt zero64 (c *ᶠ d) ≡ true → lt (c *ᶠ d) (dec 60 0) ≡ true
    → Minute k (c *ᶠ d)
nearest_minute a b c d k e m0 m60 s0 s60 =
    let m = under60 (a *ᶠ b) (mul-fits binary64 a b) m0 m60 in
    let s = under60 (c *ᶠ d) (mul-fits binary64 c d) s0 s60 in
    let i : k ≡ at m.n = e ∙ sym (floor_positive (a *ᶠ b) m0) ∙ m.is in
    let j : floor_of (c *ᶠ d) ≡ at s.n = sym (floor_positive (c *ᶠ d) s0) ∙ s.is in
    let u =
    unsigned_back binary64 32 m.n (unfold in_float in le→leb m.n (2 ^ 53) (omega (arith, m.small))) (omega (arith, m.small)) in
    let v : to_unsigned 32 (at m.n) ≡ m.n = unfold of_int in u.1 in
    record {
      cast = rw i (unfold of_int in u.0);
      room = rw (i, v) (let l = m.small in let b = bool_byte_small (not (lt (c *ᶠ d) (dec 30 0))) in omega arith);
      is = rw (i, j, s.early, v) (nearest_whole m.n s.n m.small s.small);
    }
