-- The portions that an order's parameters give are from 0 to a half. Assumes nothing.
use Rattle.prelude.proofs.Logic.{◌≡◌, refl, ap, ◌∙◌, Bool, true, false, true≢false, false≢true, inl, inr, ℕ, ◌*◌, mul-pos, zero-mul}
use Rattle.prelude.proofs.Logic.{eq-zero-or-pos, arith, lit<, lit≤, ℤ}
use Rattle.float64.proofs.Floats.{Float, nan, inf, fin, binary64, up, down, round, div, le, HasValue, round_whole, up_pos, ◌/ᶠ◌, dec}
use Rattle.float64.proofs.Floats.{Within, Signed, round-signed, div_within, FromZero, from_zero, to_tests}
use Rattle.night_portions.proofs.BoundsLaws.{Portion, half_value}

-- for the middle of the night, and for its seventh
pub half_portion : Portion (dec 1 0 /ᶠ dec 2 0)
unfolding dec round div le
half_portion = (refl, refl)

pub seventh_portion : Portion (dec 1 0 /ᶠ dec 7 0)
unfolding dec round div le
seventh_portion = (refl, refl)

-- for the twilight's angle, from 0 to 30 degrees
sixty_value : HasValue (dec 60 0) false 60 1
unfolding dec
sixty_value = round_whole binary64 false 60 (lit≤ tt)

thirty_value : HasValue (dec 30 0) false 30 1
unfolding dec
thirty_value = round_whole binary64 false 30 (lit≤ tt)

quotient_signed : (s : Bool) (m : ℕ) (e : ℤ) → Signed s (fin s m e /ᶠ dec 60 0)
unfolding dec round div
quotient_signed true m e = round-signed (m * up e * 1) (60 * down e) true
quotient_signed false m e = round-signed (m * up e * 1) (60 * down e) false

not_below : (x : Float) → Signed false x → Within x 1 2 → FromZero x 1 2
not_below nan g w = absurd g
not_below (inf s) g w = absurd w
not_below (fin true m e) g w = absurd (true≢false g)
not_below (fin false m e) g w = w

nothing : (x : Float) → Signed true x → Within x 0 2 → FromZero x 1 2
nothing nan g w = absurd g
nothing (inf s) g w = absurd w
nothing (fin false m e) g w = absurd (false≢true g)
nothing (fin true m e) g w = elim (eq-zero-or-pos m) [ inl z ↦ z | inr q ↦ let r = mul-pos q (up_pos e) in absurd (omega arith) ]

quotient : (a : Float) → FromZero a 30 1 → FromZero (a /ᶠ dec 60 0) 1 2
quotient nan f = absurd f
quotient (inf s) f = absurd f
quotient (fin false m e) f =
    not_below (fin false m e /ᶠ dec 60 0) (quotient_signed false m e)
    (div_within (fin false m e) (dec 60 0) false 30 60 1 1 1 1 (lit< tt) (lit< tt) (lit< tt) f sixty_value (lit< tt) (lit≤ tt) (lit≤ tt))
quotient (fin true m e) f =
    nothing (fin true m e /ᶠ dec 60 0) (quotient_signed true m e)
    (div_within (fin true m e) (dec 60 0) false 0 60 1 1 0 1 (lit< tt) (lit< tt) (lit< tt)
    (let z = ap (λ (i : ℕ). i * up e) f ∙ zero-mul (up e) in omega arith) sixty_value (lit< tt) (lit≤ tt) (lit≤ tt))

pub angle_portion : (a : Float) → le (dec 0 0) a ≡ true → le a (dec 30 0) ≡ true → Portion (a /ᶠ dec 60 0)
angle_portion a h k =
    to_tests (a /ᶠ dec 60 0) (dec 5 1) 1 2 (lit< tt) half_value (quotient a (from_zero a (dec 30 0) 30 1 (lit< tt) thirty_value h k))
