-- A minus and the digits of the size, or the digits alone, make the signed number. Assumes nothing.
use Rattle.prelude.proofs.Logic.{◌≡◌, refl, sym, ap, ◌∙◌, true, false, List, [], ◌++◌, ℕ, suc, ◌+◌, ◌≤◌, arith, ℤ, pos, negsuc}
use Rattle.prelude.proofs.Logic.{nat_abs, length, lt_z, ltb-true}
use Rattle.text.specs.Text.{ascii, decimal_of, put_of, front_of}
use Rattle.text.specs.Signed.{signed_of}
use Rattle.text.proofs.TextLaws.{digits_short, put_next}

minus : (z : ℤ) → lt_z z (pos 0) ≡ true → ascii "-" ++ decimal_of (nat_abs z) ≡ signed_of z
unfolding signed_of
minus (pos n) t = absurd (let l = ltb-true n 0 t in omega arith)
minus (negsuc n) t = refl

plain : (z : ℤ) → lt_z z (pos 0) ≡ false → decimal_of (nat_abs z) ≡ signed_of z
unfolding signed_of
plain (pos n) t = refl
plain (negsuc n) t = cc

pub signed_length : (z : ℤ) → length (signed_of z) ≤ 21
unfolding signed_of
signed_length (pos n) = let d = digits_short 20 n in omega arith
signed_length (negsuc n) =
    let d = digits_short 20 (suc n) in
    omega arith

-- `x` is z, as the code's test reads it
module _ (text : List ℕ) (room : length text ≡ 21) (z x : ℤ) (is : x ≡ z) where
  pub minus-made : (one two : List ℕ) (n k : ℕ) → lt_z x (pos 0) ≡ true → n ≡ nat_abs x → one ≡ put_of text 0 (ascii "-")
      → k ≡ length (decimal_of n) → two ≡ put_of one 1 (decimal_of n) → (1 + k ≡ length (signed_of z)) × (two ≡ front_of (signed_of z) text)
  minus-made one two n k t e p l q =
      let m : ascii "-" ++ decimal_of n ≡ signed_of z = ap (λ (i : ℕ). ascii "-" ++ decimal_of i) (e ∙ ap nat_abs is)
      ∙ minus z (ap (λ (i : ℤ). lt_z i (pos 0)) (sym is) ∙ t) in
      let b = ap length m in
      let d = digits_short 20 n in
      let first = put_next text [] (ascii "-") text one 0 refl refl p (omega arith) in
      (omega arith, put_next text (ascii "-") (decimal_of n) one two 1 first refl q (omega arith) ∙ ap (λ (i : List ℕ). front_of i text) m)

  pub plain-made : (one : List ℕ) (n k : ℕ) → lt_z x (pos 0) ≡ false → n ≡ nat_abs x → k ≡ length (decimal_of n)
      → one ≡ put_of text 0 (decimal_of n) → (k ≡ length (signed_of z)) × (one ≡ front_of (signed_of z) text)
  plain-made one n k t e l p =
      let m : decimal_of n ≡ signed_of z = ap decimal_of (e ∙ ap nat_abs is) ∙ plain z (ap (λ (i : ℤ). lt_z i (pos 0)) (sym is) ∙ t) in
      let d = digits_short 20 n in
      (l ∙ ap length m, put_next text [] (decimal_of n) text one 0 refl refl p (omega arith) ∙ ap (λ (i : List ℕ). front_of i text) m)
