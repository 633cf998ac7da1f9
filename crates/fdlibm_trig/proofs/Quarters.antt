-- The reduction gives the quarter turns by their remainder by 4. Assumes nothing.
use Rattle.prelude.proofs.Logic.{Bool, true, false, cond, ◌<◌, arith, ltb, leb}
use Rattle.float64.proofs.Floats.{Float, lt, abs_of, high_of}
use Rattle.fdlibm_trig.specs.declared.e_rem_pio2.Reduced.{Reduced}
use Rattle.fdlibm_trig.specs.KTan.{zero}
use Rattle.fdlibm_trig.specs.RemPio2.{less_of, more_of, medium_of, opposite_of, near_of, near_negative_of, rem_pio2_of}

pub quarters : (x : Float) → (rem_pio2_of x).n < 4
unfolding rem_pio2_of
quarters x = by_tests (leb (high_of x) 0x3fe9_21fb) (ltb (high_of x) 0x4002_d97c) (lt x zero)
  where
    reduced : Bool → Bool → Bool → Reduced
    reduced a b negative =
        cond a (record { n = 0; y0 = x; y1 = zero })
        (cond b
        (cond negative (more_of 3 (near_negative_of x (high_of x))) (less_of 1 (near_of x (high_of x))))
        (cond negative (opposite_of (medium_of (abs_of x) (high_of x))) (medium_of (abs_of x) (high_of x))))

    by_tests : (a b negative : Bool) → (reduced a b negative).n < 4
    by_tests true b negative = omega arith
    by_tests false true true = omega arith
    by_tests false true false = omega arith
    by_tests false false true = omega arith
    by_tests false false false = omega arith
