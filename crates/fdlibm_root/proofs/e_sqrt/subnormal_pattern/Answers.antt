-- The significand is moved up to its 53rd digit, and the number of places that it was moved counts down the exponent.
use Rattle.prelude.proofs.Logic.{◌∙◌, ap, arith}
use Rattle.fdlibm_root.specs.Root.{rounded_root}
use Rattle.fdlibm_root.proofs.Moved.{moved, moved_same}
use Rattle.fdlibm_root.proofs.e_sqrt.subnormal_pattern.Goals as goal

pub overflow_sub-places : goal.overflow_sub-places
overflow_sub-places c = (moved c.args.t c.requires.0 c.requires.1).0

pub root_pattern-requires : goal.root_pattern-requires
root_pattern-requires c =
    let m = (moved c.args.t c.requires.0 c.requires.1).1 in
    (m.least, m.small, omega (arith, m.places), omega arith)

pub returns : goal.returns
returns c =
    let m = (moved c.args.t c.requires.0 c.requires.1).1 in
    (c.root_pattern.ensures.0 ∙ ap rounded_root (moved_same c.args.t _ _ m), c.root_pattern.ensures.1)
