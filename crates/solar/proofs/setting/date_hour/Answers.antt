use Rattle.prelude.proofs.Logic.{sym, subst, T}
use lib.Ieee.{Float, binary64, in_unsigned}
use Rattle.solar.specs.Setting.{setting_hour_of}
use Rattle.solar.proofs.OnTheDate.{normal, hours_cast, placed}
use Rattle.solar.proofs.setting.date_hour.Goals as goal

pub float_to_int-placed : goal.float_to_int-placed
float_to_int-placed c =
    subst (λ (x : Float). T (in_unsigned binary64 32 x)) (sym c.floor-calculated_hours.ensures)
    (hours_cast c.args.value c.requires.0 c.requires.1)

pub returns : goal.returns
unfolding setting_hour_of
returns c =
    let n = normal c.args.value c.requires.0 c.requires.1 in
    let p = placed c.args.value c.requires.0 c.requires.1 in
    simp (c.hour.ensures, c.date_minute.ensures, c.floor-calculated_hours.ensures, n, p)
