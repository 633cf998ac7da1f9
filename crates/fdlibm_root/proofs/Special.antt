-- The root of a zero is that zero. A float that is neither above 0 nor a zero has no root.
use Rattle.prelude.proofs.Logic.{◌≡◌, refl, sym, ap, ◌∙◌, subst, Bool, true, false, ◌&&◌, ◌||◌, Bool·beq, false≢true, true≢false, ℕ, zero}
use Rattle.prelude.proofs.Logic.{suc, ◌*◌, ◌<◌, lt_irrefl, mul-pos, zero-lt-suc, zero-mul, T, eqb, ltb, eqb→eq, lt→ltb, ℤ, pos, and_l}
use Rattle.prelude.proofs.Ieee.{Float, nan, inf, fin, up, down, lt, eq, is_true, up_pos}
use Rattle.fdlibm_root.specs.Root.{sqrt_of}

-- the size of a number and of a zero, as the comparisons see them
size_above : (m : ℕ) (e : ℤ) → 0 < suc m * up e * 1
size_above m e = mul-pos (mul-pos (zero-lt-suc m) (up_pos e)) (zero-lt-suc 0)

size_zero : (a b : ℕ) → 0 * a * b ≡ 0
size_zero a b = ap (λ (z : ℕ). z * b) (zero-mul a) ∙ zero-mul b

pub zero_root : (x : Float) → eq x (fin false 0 (pos 0)) ≡ true → x ≡ sqrt_of x
unfolding eq sqrt_of
zero_root nan h = refl
zero_root (inf true) h = absurd (false≢true h)
zero_root (inf false) h = refl
zero_root (fin s zero e) h = refl
zero_root (fin s (suc m) e) h =
    let a = suc m * up e * 1 in
    let same : a ≡ 0 * 1 * down e =
    eqb→eq a (0 * 1 * down e) (and_l (eqb a (0 * 1 * down e)) (Bool·beq s false || eqb a 0) (subst T (sym h) tt)) in
    absurd (lt_irrefl 0 (subst (λ (z : ℕ). 0 < z) (same ∙ size_zero 1 (down e)) (size_above m e)))

pub no_root : (x : Float) → lt (fin false 0 (pos 0)) x ≡ false → eq x (fin false 0 (pos 0)) ≡ false → nan ≡ sqrt_of x
unfolding lt eq sqrt_of
no_root nan h k = refl
no_root (inf true) h k = refl
no_root (inf false) h k = absurd (true≢false h)
no_root (fin s zero e) h k =
    absurd (true≢false (sym (equal s (0 * up e * 1) (0 * 1 * down e) (size_zero (up e) 1) (size_zero 1 (down e))) ∙ k))
  where
    equal : (s : Bool) (a b : ℕ) → a ≡ 0 → b ≡ 0 → (eqb a b && (Bool·beq s false || eqb a 0)) ≡ true
    equal true a b p q = simp (p, q)
    equal false a b p q = simp (p, q)
no_root (fin true (suc m) e) h k = refl
no_root (fin false (suc m) e) h k =
    let a = 0 * 1 * down e in let b = suc m * up e * 1 in
    let less : a < b = subst (λ (z : ℕ). z < b) (sym (size_zero 1 (down e))) (size_above m e) in
    absurd (true≢false (sym (is_true (ltb a b) (lt→ltb a b less)) ∙ h))
