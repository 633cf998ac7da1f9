-- The bytes of a number by the library, and by the definitions. Assumes nothing.
use Rattle.std.specs.Int.{to_be_bytes}
use Rattle.std.proofs.Math.Nat.{div-div-eq-div-mul}
use Rattle.prelude.proofs.Logic.{◌≡◌, sym, ap, ◌∙◌, [], ◌∷◌, ℕ, ◌≤◌, ◌/◌, ◌%◌, min, min-eq_left, min-eq_right, le_of_lt, leb, leb-true, leb-false}
use Rattle.prelude.proofs.Logic.{mod-eq_of_lt, cases, arith, w16, w64}
use Rattle.order_numbers.specs.Bytes.{up_to, two_bytes, eight_bytes}

pub min_is : (most n : ℕ) → min n most ≡ up_to most n
unfolding up_to
min_is most n =
    cases (leb n most) (λ e. min-eq_left (leb-true n most e) ∙ sym (simp e))
    (λ e. min-eq_right (le_of_lt (leb-false n most e)) ∙ sym (simp e))

pub two_is : (n : ℕ) → n ≤ 65535 → to_be_bytes w16 n ≡ two_bytes n
unfolding two_bytes
two_is n h = let small : n / 256 % 256 ≡ n / 256 = mod-eq_of_lt (omega arith) in ap (λ (k : ℕ). k ∷ n % 256 ∷ []) small

pub eight_is : (n : ℕ) → to_be_bytes w64 n ≡ eight_bytes n
unfolding eight_bytes
eight_is n = simp div-div-eq-div-mul
