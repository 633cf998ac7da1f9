use Rattle.prelude.proofs.Logic.{◌-◌, ◌<◌, arith, lt-ltb, le-ltb}
use Rattle.fdlibm_trig.proofs.Shifts.{below_inf, shifted}
use Rattle.fdlibm_trig.specs.KCos.{quarter_of}
use Rattle.fdlibm_trig.proofs.k_cos.quarter.Goals as goal

pub float_from_bits-result : goal.float_from_bits-result
unfolding quarter_of
float_from_bits-result c =
    let h : c.args.ix - 2097152 < 4294967296 = omega arith in
    rw shifted (below_inf _ (omega arith))

pub returns-then-ix-gt1072234496 : goal.returns-then-ix-gt1072234496
unfolding quarter_of
returns-then-ix-gt1072234496 c = simp (lt-ltb _ _ c.if-ix-gt1072234496.true)

pub returns-else-ix-gt1072234496 : goal.returns-else-ix-gt1072234496
unfolding quarter_of
returns-else-ix-gt1072234496 c =
    let h : c.args.ix - 2097152 < 4294967296 = omega arith in
    simp (le-ltb _ _ c.if-ix-gt1072234496.false, shifted _ h)
