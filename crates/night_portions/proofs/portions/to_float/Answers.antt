use Rattle.prelude.proofs.Logic.{◌≡◌, ap, ◌∙◌, true, T, ◌^◌, ℤ, pos, negsuc, le_z, arith, w64, le→leb, lt→ltb}
use Rattle.prelude.proofs.Ieee.{binary64, of_int}
use Rattle.integers.proofs.Integers.{le_yes, read}
use Rattle.float64.proofs.Floats.{in_float}
use Rattle.night_portions.proofs.portions.to_float.Goals as goal

-- the two tests are the cast's own condition
exact : (z : ℤ) → le_z (negsuc 9007199254740991) z ≡ true → le_z z (pos 9007199254740992) ≡ true → T (in_float binary64 z)
unfolding in_float
exact (pos n) least most = le→leb n (2 ^ 53) (omega (arith, le_yes (pos n) (pos 9007199254740992) most))
exact (negsuc n) least most = lt→ltb n (2 ^ 53) (omega (arith, le_yes (negsuc 9007199254740991) (negsuc n) least))

pub int_to_float-result : goal.int_to_float-result
int_to_float-result c = exact _ c.if-seconds-ge-LEAST_EXACT.true c.if-seconds-le-MOST_EXACT.true

pub returns-then-seconds-le-MOST_EXACT : goal.returns-then-seconds-le-MOST_EXACT
returns-then-seconds-le-MOST_EXACT c = let t = c.before.before.before in ap (of_int binary64) (read w64 t.args.seconds t.ranges.seconds)

pub returns-else-seconds-ge-LEAST_EXACT : goal.returns-else-seconds-ge-LEAST_EXACT
returns-else-seconds-ge-LEAST_EXACT c =
    c.nearest_i64_to_f64.ensures ∙ ap (of_int binary64) (read w64 c.args.seconds c.ranges.seconds)
