-- A range contains a float by std's comparison, which is the one of `inside_of`. Assumes nothing.
use Rattle.prelude.proofs.Logic.{◌≡◌, refl, Bool, true, false, cond, ◌||◌}
use Rattle.std.specs.Float.Ieee.{Float, le, lt, eq}
use Rattle.std.specs.Ordering.{float_partial_cmp, partial_le, is_some_and, is_le}
use Rattle.std.specs.Prelude.{Some, None}
use Rattle.std.specs.declared.cmp.Ordering.TheVariants.{Less, Equal, Greater}

pub le_is : (x y : Float) → partial_le float_partial_cmp x y ≡ le x y
unfolding le
le_is x y = by-tests (lt x y) (eq x y) (lt y x)
  where
    by-tests : (a b c : Bool)
        → is_some_and is_le (cond a (Some Less) (cond b (Some Equal) (cond c (Some Greater) None))) ≡ a || b
    by-tests true b c = refl
    by-tests false true c = refl
    by-tests false false true = refl
    by-tests false false false = refl
