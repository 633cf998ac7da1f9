-- Half the exponent and the nearest root make the pattern of the rounded root.
use Rattle.prelude.proofs.Logic.{sym, arith}
use Rattle.fdlibm_root.proofs.Scaled.{scaled_root, scaled_fits}
use Rattle.fdlibm_root.proofs.e_sqrt.root_pattern.Goals as goal

pub overflow_add-result : goal.overflow_add-result
overflow_add-result c =
    let a = c.args in
    let small =
    scaled_fits a.significand a.exponent c.nearest.result c.requires.1 c.requires.3 c.nearest.ensures in
    record { fits = omega arith }

pub returns : goal.returns
returns c =
    let a = c.args in
    let pre = c.requires in (
      sym (scaled_root a.significand a.exponent c.nearest.result pre.0 pre.1 pre.2 pre.3 c.nearest.ensures),
      scaled_fits a.significand a.exponent c.nearest.result pre.1 pre.3 c.nearest.ensures,
    )
