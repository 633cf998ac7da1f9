-- Each branch returns the root by the definition's clause for its floats.
use Rattle.prelude.proofs.Logic.{◌∙◌, sym}
use Rattle.prelude.proofs.Ieee.{of_bits, div}
use Rattle.fdlibm_root.proofs.NoNan.{no_nan, no_nan_bits}
use Rattle.fdlibm_root.proofs.Patterns.{not-zero, subnormal-root, normal-root, infinite-root}
use Rattle.fdlibm_root.proofs.Special.{zero_root, no_root}
use Rattle.fdlibm_root.proofs.e_sqrt.sqrt.Goals as goal

pub float_to_bits-b : goal.float_to_bits-b
unfolding of_bits div
float_to_bits-b c = no_nan c.args.x c.if-x.true

pub subnormal_pattern-requires : goal.subnormal_pattern-requires
unfolding of_bits div
subnormal_pattern-requires c = (not-zero c.args.x c.well_formed.0.1 c.if-x.true, c.if-b-lt-LEADING.true)

pub float_from_bits-result : goal.float_from_bits-result
unfolding of_bits div
float_from_bits-result c = no_nan_bits _ c.subnormal_pattern.ensures.1

pub float_from_bits-result-then-b-lt-INFINITY : goal.float_from_bits-result-then-b-lt-INFINITY
unfolding of_bits div
float_from_bits-result-then-b-lt-INFINITY c = no_nan_bits _ c.root_pattern.ensures.1

pub returns-then-b-lt-LEADING : goal.returns-then-b-lt-LEADING
unfolding of_bits div
returns-then-b-lt-LEADING c =
    let start = c.before.before.before in
    c.subnormal_pattern.ensures.0
    ∙ sym (subnormal-root start.args.x start.well_formed.0.1 c.if-x.true c.if-b-lt-LEADING.true)

pub returns-then-b-lt-INFINITY : goal.returns-then-b-lt-INFINITY
unfolding of_bits div
returns-then-b-lt-INFINITY c =
    let start = c.before.before.before.before in
    c.root_pattern.ensures.0 ∙ sym (normal-root start.args.x start.well_formed.0.1 c.if-x.true
    c.if-b-lt-LEADING.false c.if-b-lt-INFINITY.true)

pub returns-else-b-lt-INFINITY : goal.returns-else-b-lt-INFINITY
unfolding of_bits div
returns-else-b-lt-INFINITY c =
    let start = c.before.before.before in
    infinite-root start.args.x start.well_formed.0.1 c.if-x.true c.if-b-lt-INFINITY.false

pub returns-then-x-2 : goal.returns-then-x-2
unfolding of_bits div
returns-then-x-2 c = zero_root c.args.x c.if-x-2.true

pub returns-else-x-2 : goal.returns-else-x-2
unfolding of_bits div
returns-else-x-2 c = no_root c.args.x c.if-x.false c.if-x-2.false
