-- Seconds that are held at the ends of an i32. Assumes nothing.
use Rattle.prelude.proofs.Logic.{◌≡◌, refl, subst, true, false, ◌^◌, arith, lt_z, ℤ, pos, negsuc, cases}
use Rattle.integers.proofs.Integers.{Near, ◌≼◌, lt_no, to_not_lt}
use Rattle.schedule.specs.Twilight.{short_of}

abbrev Short : ℤ → ℤ → Type 0
Short r z = (r ≡ short_of z) × Near (2 ^ 31) r

within : (z : ℤ) → z ≼ pos 2147483647 → negsuc 2147483647 ≼ z → Near (2 ^ 31) z
within (pos n) over under = record { from = omega arith; to = omega arith }
within (negsuc n) over under = record { from = omega arith; to = omega arith }

-- case by case, by the code's two tests
pub high : (z : ℤ) → lt_z (pos 2147483647) z ≡ true → Short (pos 2147483647) z
unfolding short_of
high z over = (rw over refl, record { from = omega arith; to = omega arith })

pub low : (z : ℤ) → lt_z (pos 2147483647) z ≡ false → lt_z z (negsuc 2147483647) ≡ true → Short (negsuc 2147483647) z
unfolding short_of
low z not_over under = (rw (not_over, under) refl, record { from = omega arith; to = omega arith })

pub between : (z : ℤ) → lt_z (pos 2147483647) z ≡ false → lt_z z (negsuc 2147483647) ≡ false → Short z z
unfolding short_of
between z not_over not_under =
    (rw (not_over, not_under) refl, within z (lt_no (pos 2147483647) z not_over) (lt_no z (negsuc 2147483647) not_under))

pub short_near : (z : ℤ) → Near (2 ^ 31) (short_of z)
short_near z =
    cases (lt_z (pos 2147483647) z) (λ over. near (high z over))
    (λ not_over. cases (lt_z z (negsuc 2147483647)) (λ under. near (low z not_over under))
    (λ not_under. near (between z not_over not_under)))
  where
    near : {r : ℤ} → Short r z → Near (2 ^ 31) (short_of z)
    near h = subst (Near (2 ^ 31)) h.0 h.1

-- seconds that an i32 holds stay as they are
pub short_is : (z : ℤ) → Near 2147483647 z → short_of z ≡ z
unfolding short_of
short_is z h =
    let over = h.to in
    let under = h.from in
    rw (to_not_lt (pos 2147483647) z (omega arith), to_not_lt z (negsuc 2147483647) (omega arith))
