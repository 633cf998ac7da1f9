-- Whole seconds ahead of an instant. Assumes nothing.
use Rattle.prelude.proofs.Logic.{◌≡◌, sym, ap, ◌∙◌, ℕ, ◌+◌, ◌-◌, ◌*◌, ◌/◌, arith, ℤ, pos}
use Rattle.prelude.proofs.Logic.{negsuc, ◌+ℤ◌, ◌-ℤ◌, ◌*ℤ◌}
use Rattle.integers.proofs.Integers.{P, N, sum, difference, times}
use Rattle.schedule.specs.InForce.{in_second, nanoseconds_of, ahead_of}
use Rattle.schedule.specs.declared.{in_force.Instant.Instant}

-- the positive part of a balance
positive_part : (z : ℤ) (a b : ℕ) → P z + b ≡ N z + a → P z ≡ a - b
positive_part (pos n) a b h = omega arith
positive_part (negsuc n) a b h = omega arith

between_is : (t s : ℤ) → P (t -ℤ s) ≡ (P t + N s) - (P s + N t)
between_is t s = let d = difference t s in positive_part (t -ℤ s) (P t + N s) (P s + N t) (omega (arith, d.0, d.1))

whole_seconds : (a b n : ℕ) → ((a * 1000000000) - (b * 1000000000 + n)) / 1000000000 ≡ (a - b) - (n + 999999999) / 1000000000
whole_seconds a b n = omega arith

pub ahead_is : (t : ℤ) (i : Instant) → ahead_of t i ≡ P (t -ℤ i.seconds) - (i.nanoseconds + 999999999) / 1000000000
unfolding ahead_of nanoseconds_of
ahead_is t i =
    let s = i.seconds in
    let n = i.nanoseconds in
    let a = P t + N s in
    let b = P s + N t in
    let x = times t 1000000000 in
    let y = times s 1000000000 in
    let w = sum (s *ℤ pos in_second) (pos n) in
    let d = difference (t *ℤ pos in_second) (s *ℤ pos in_second +ℤ pos n) in
    let p = positive_part (t *ℤ pos in_second -ℤ (s *ℤ pos in_second +ℤ pos n)) (a * 1000000000) (b * 1000000000 + n)
    (omega (arith, d.0, d.1)) in
    ap (λ (z : ℕ). z / 1000000000) p ∙ whole_seconds a b n ∙ ap (λ (z : ℕ). z - (n + 999999999) / 1000000000) (sym (between_is t s))
