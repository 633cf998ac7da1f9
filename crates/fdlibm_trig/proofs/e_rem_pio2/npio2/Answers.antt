-- The high word of the product is the table's entry, computed for each n from 1 to 32.
use Rattle.prelude.proofs.Logic.{◌≡◌, sym, ◌∙◌, Bool, ℕ, zero, suc, ◌≤◌, ◌<◌, ◌-◌, arith, T, eqb, eqb→eq, pos, List·getD-eq-default}
use Rattle.prelude.proofs.Computed.{below, at}
use Rattle.float64.proofs.Floats.{binary64, round, of_int, of_bits, mul, to_bits, high_of, ◌*ᶠ◌}
use Rattle.fdlibm_trig.specs.RemPio2.{npio2_of, npio2, pio2_1}
use Rattle.fdlibm_trig.proofs.e_rem_pio2.npio2.Goals as goal

-- the table, one by one
highTest : ℕ → Bool
highTest i = eqb (high_of (of_int binary64 (pos (suc i)) *ᶠ pio2_1)) (npio2_of (suc i))

all-high : T (below highTest 32)
unfolding highTest npio2_of npio2 high_of of_int round mul to_bits of_bits
all-high = tt

high : (n : ℕ) → 0 < n → n ≤ 32 → high_of (of_int binary64 (pos n) *ᶠ pio2_1) ≡ npio2_of n
unfolding highTest
high zero z l = absurd (omega (arith, z))
high (suc i) z l = eqb→eq _ _ (at highTest 32 all-high i (omega arith))

pub returns-then-n-eq0 : goal.returns-then-n-eq0
unfolding npio2_of npio2
returns-then-n-eq0 c = simp c.if-n-eq0.true

pub returns-then-n-le32 : goal.returns-then-n-le32
unfolding npio2_of npio2
returns-then-n-le32 c =
    c.high_word.ensures ∙ high c.args.n
    (omega (arith, c.if-n-eq0.false)) c.if-n-le32.true

pub returns : goal.returns
unfolding npio2_of npio2
returns c =
    let n = c.args.n in
    sym (List·getD-eq-default npio2 0 {n = n - 1} (omega (arith, c.if-n-le32.false)))
