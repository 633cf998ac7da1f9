-- From the result of a comparison to the parts of the integers compared, and back. Assumes nothing.
use Rattle.prelude.proofs.Logic.{◌≡◌, refl, subst, Bool, true, false, not, ◌+◌, ◌<◌, arith, T, ℤ, pos, negsuc, le_z, lt_z, ltb-true}
use Rattle.prelude.proofs.Logic.{ltb-false, leb-true, leb-false, lt-ltb, le-ltb, le-leb, lt-leb}
use Rattle.integers.specs.Parts.{P, N}
use Rattle.integers.specs.Order.{◌≼◌}

-- a truth value is not both
no : {X : Type 0} → ◌≡◌ {A = Bool} false true → X
no e = absurd (subst (λ (b : Bool). T (not b)) e tt)

yes : {X : Type 0} → ◌≡◌ {A = Bool} true false → X
yes e = absurd (subst T e tt)

pub le_yes : (x y : ℤ) → le_z x y ≡ true → x ≼ y
le_yes (pos a) (pos b) h = omega (arith, leb-true a b h)
le_yes (pos a) (negsuc b) h = no h
le_yes (negsuc a) (pos b) h = omega arith
le_yes (negsuc a) (negsuc b) h = omega (arith, leb-true b a h)

pub le_no : (x y : ℤ) → le_z x y ≡ false → P y + N x < P x + N y
le_no (pos a) (pos b) h = omega (arith, leb-false a b h)
le_no (pos a) (negsuc b) h = omega arith
le_no (negsuc a) (pos b) h = yes h
le_no (negsuc a) (negsuc b) h = omega (arith, leb-false b a h)

pub lt_yes : (x y : ℤ) → lt_z x y ≡ true → P x + N y < P y + N x
lt_yes (pos a) (pos b) h = omega (arith, ltb-true a b h)
lt_yes (pos a) (negsuc b) h = no h
lt_yes (negsuc a) (pos b) h = omega arith
lt_yes (negsuc a) (negsuc b) h = omega (arith, ltb-true b a h)

pub lt_no : (x y : ℤ) → lt_z x y ≡ false → y ≼ x
lt_no (pos a) (pos b) h = omega (arith, ltb-false a b h)
lt_no (pos a) (negsuc b) h = omega arith
lt_no (negsuc a) (pos b) h = yes h
lt_no (negsuc a) (negsuc b) h = omega (arith, ltb-false b a h)

pub to_le : (x y : ℤ) → x ≼ y → le_z x y ≡ true
to_le (pos a) (pos b) h = le-leb a b (omega arith)
to_le (pos a) (negsuc b) h = absurd (omega arith)
to_le (negsuc a) (pos b) h = refl
to_le (negsuc a) (negsuc b) h = le-leb b a (omega arith)

pub to_not_le : (x y : ℤ) → P y + N x < P x + N y → le_z x y ≡ false
to_not_le (pos a) (pos b) h = lt-leb a b (omega arith)
to_not_le (pos a) (negsuc b) h = refl
to_not_le (negsuc a) (pos b) h = absurd (omega arith)
to_not_le (negsuc a) (negsuc b) h = lt-leb b a (omega arith)

pub to_lt : (x y : ℤ) → P x + N y < P y + N x → lt_z x y ≡ true
to_lt (pos a) (pos b) h = lt-ltb a b (omega arith)
to_lt (pos a) (negsuc b) h = absurd (omega arith)
to_lt (negsuc a) (pos b) h = refl
to_lt (negsuc a) (negsuc b) h = lt-ltb b a (omega arith)

pub to_not_lt : (x y : ℤ) → y ≼ x → lt_z x y ≡ false
to_not_lt (pos a) (pos b) h = le-ltb a b (omega arith)
to_not_lt (pos a) (negsuc b) h = refl
to_not_lt (negsuc a) (pos b) h = absurd (omega arith)
to_not_lt (negsuc a) (negsuc b) h = le-ltb b a (omega arith)
