-- A seventh of a night, its middle and its last third are in the night. A later maghrib and a later Fajr never make the last two earlier.
-- Laws of the definitions of `Portions`. Assumes nothing.
use Rattle.prelude.proofs.Logic.{◌≡◌, refl, ap, ◌∙◌, Bool, true, false, ℕ, suc, ◌+◌, ◌*◌, ◌/◌, ◌^◌, ◌≤◌, ◌<◌, arith, lit<, lit≤, ℤ, pos}
use Rattle.prelude.proofs.Logic.{negsuc, ◌+ℤ◌, ◌-ℤ◌, quot_z}
use Rattle.float64.proofs.Floats.{Float, nan, inf, fin, binary64, up, down, unlike, round, div, of_int, to_signed, HasValue, round_whole}
use Rattle.float64.proofs.Floats.{down_pos, round_same, ◌*ᶠ◌, ◌/ᶠ◌, dec, dyadic_value, mul_same, Within, round-signed, round-neg}
use Rattle.float64.proofs.Floats.{value_within, whole_size, signed, whole_most, whole_value, whole_neg, cast_is}
use Rattle.integers.proofs.Integers.{divided, Inside, ◌≼◌}
use Rattle.night_portions.specs.Portions.{seventh_of, middle_of, last_third_of}
use Rattle.night_portions.proofs.Steady.{longest, Small, Steady, share, share-inside, share-later}
use Rattle.night_portions.proofs.Thirds.{two_thirds, third, third_within, third_steady}

unlike_plus : (s : Bool) → unlike s false ≡ s
unlike_plus true = refl
unlike_plus false = refl

-- a rounded fraction that is cut to whole seconds has the same size for both signs
cut_signed : (s : Bool) (a b n c : ℕ) → Within (round binary64 s a b) n c → whole_size (round binary64 s a b) < 2 ^ 63
    → to_signed 63 (round binary64 s a b) ≡ signed s (whole_size (round binary64 false a b))
cut_signed s a b n c w l = cast_is 63 s (round binary64 s a b) (round-signed a b s) n c w l ∙ ap (signed s) (same s)
  where
    same : (s : Bool) → whole_size (round binary64 s a b) ≡ whole_size (round binary64 false a b)
    same true = ap whole_size (round-neg a b) ∙ whole_neg (round binary64 false a b)
    same false = refl

-- ---- the middle: exactly half
half_is : (s : Bool) (x : Float) (d : ℕ) → HasValue x s d 1 → x /ᶠ dec 2 0 ≡ round binary64 s d 2
unfolding dec round div
half_is s nan d v = absurd v
half_is s (inf t) d v = absurd v
half_is s (fin t m e) d v =
    ap (λ (u : Bool). round binary64 u (m * up e * 1) (2 * down e)) (unlike_plus t ∙ v.0)
    ∙ round_same binary64 s (m * up e * 1) (2 * down e) d 2 (let p = down_pos e in omega arith) (lit< tt) (omega (arith, v.1))

module _ (s : Bool) (d : ℕ) (h : d ≤ longest) where
  half_value : HasValue (round binary64 s d 2) s d 2
  half_value = dyadic_value s d 1 (omega arith) (lit≤ tt)

  half-cut : to_signed 63 (round binary64 s d 1 /ᶠ dec 2 0) ≡ signed s (d / 2)
  half-cut =
      let x = round binary64 s d 2 in
      let e = whole_value x s d 2 (lit< tt) half_value in
      ap (to_signed 63) (half_is s (round binary64 s d 1) d (round_whole binary64 s d (omega arith)))
      ∙ cast_is 63 s x (round-signed d 2 s) d 2 (value_within x s d 2 half_value) (rw e (omega arith))
      ∙ ap (signed s) e

-- the same in whole numbers, rounded toward zero
pub middle_is : (z : ℤ) → Small z → middle_of z ≡ quot_z z (pos 2)
unfolding middle_of of_int
middle_is (pos d) h = half-cut false d h.to
middle_is (negsuc k) h = half-cut true (suc k) h.from

half_steady : Steady (λ (d : ℕ). d / 2)
half_steady = record { none = refl; grows = λ d e h l. omega arith; slow = λ d e h l. omega arith }

half_share : (z : ℤ) → quot_z z (pos 2) ≡ share (λ (d : ℕ). d / 2) z
half_share (pos d) = refl
half_share (negsuc k) = refl

-- ---- the last third
two_thirds_value : HasValue (dec 2 0 /ᶠ dec 3 0) false two_thirds 9007199254740992
unfolding dec round div
two_thirds_value = (refl, refl)

module _ (s : Bool) (d : ℕ) (h : d ≤ longest) where
  third-is : round binary64 s d 1 *ᶠ (dec 2 0 /ᶠ dec 3 0) ≡ round binary64 s (d * two_thirds) 9007199254740992
  third-is =
      mul_same binary64 (round binary64 s d 1) (dec 2 0 /ᶠ dec 3 0) s false d two_thirds 1 9007199254740992 (lit< tt) (lit< tt)
      (round_whole binary64 s d (omega arith)) two_thirds_value
      ∙ ap (λ (u : Bool). round binary64 u (d * two_thirds) 9007199254740992) (unlike_plus s)

  third-cut : to_signed 63 (round binary64 s d 1 *ᶠ (dec 2 0 /ᶠ dec 3 0)) ≡ signed s (third d)
  unfolding third
  third-cut =
      let w = third_within d s h in
      let l = whole_most (round binary64 s (d * two_thirds) 9007199254740992) (4 * (2 * d / 3) + 3) 4 w in
      ap (to_signed 63) third-is ∙ cut_signed s (d * two_thirds) 9007199254740992 (4 * (2 * d / 3) + 3) 4 w (omega arith)

third_share : (z : ℤ) → Small z → last_third_of z ≡ share third z
unfolding last_third_of of_int
third_share (pos d) h = third-cut false d h.to
third_share (negsuc k) h = third-cut true (suc k) h.from

-- ---- the laws
-- they are never outside the night
pub seventh_inside : (z : ℤ) → Inside (seventh_of z) z
unfolding seventh_of
seventh_inside z = let d = divided z 7 (lit< tt) in record { over = omega arith; under = omega arith }

pub middle_inside : (z : ℤ) → Small z → Inside (middle_of z) z
middle_inside z h = rw (middle_is z h, half_share z) (share-inside (λ (d : ℕ). d / 2) half_steady z h)

pub last_third_inside : (z : ℤ) → Small z → Inside (last_third_of z) z
last_third_inside z h = rw (third_share z h) (share-inside third third_steady z h)

-- they are never earlier, if maghrib moves from m to a later m' and tomorrow's Fajr from f to a later f'
pub middle_later : (m f m' f' : ℤ) → m ≼ m' → f ≼ f' → Small (f -ℤ m) → Small (f' -ℤ m')
    → m +ℤ middle_of (f -ℤ m) ≼ m' +ℤ middle_of (f' -ℤ m')
middle_later m f m' f' hm hf hz hw =
    rw (middle_is (f -ℤ m) hz, middle_is (f' -ℤ m') hw, half_share (f -ℤ m), half_share (f' -ℤ m'))
    (share-later (λ (d : ℕ). d / 2) half_steady m f m' f' hm hf hz hw)

pub last_third_later : (m f m' f' : ℤ) → m ≼ m' → f ≼ f' → Small (f -ℤ m) → Small (f' -ℤ m')
    → m +ℤ last_third_of (f -ℤ m) ≼ m' +ℤ last_third_of (f' -ℤ m')
last_third_later m f m' f' hm hf hz hw =
    rw (third_share (f -ℤ m) hz, third_share (f' -ℤ m') hw) (share-later third third_steady m f m' f' hm hf hz hw)
