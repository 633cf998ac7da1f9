-- The Julian Day's exact value is Meeus's number, and counts the calendar's days. Assumes nothing.
use Rattle.prelude.proofs.Logic.{sym, subst, false, arith, lit≤}
use Rattle.float64.proofs.Floats.{Float, HasValue, dyadic_value}
use Rattle.julian.specs.Meeus.{meeus_of, JulianDaysAreMeeus}
use Rattle.julian.proofs.Counted.{meeus_number}
use Rattle.julian.proofs.JulianLaws.{julian_meeus, meeus_small}

pub julian_days_are_meeus : JulianDaysAreMeeus
julian_days_are_meeus d h p q =
    record {
      meeus = subst (λ (x : Float). HasValue x false (meeus_of d) 2) (sym (julian_meeus d h p (omega arith)))
          (dyadic_value false (meeus_of d) 1 (meeus_small d h (omega arith)) (lit≤ tt));
      counted = meeus_number d h (omega arith);
    }
