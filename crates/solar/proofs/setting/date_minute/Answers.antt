-- If minutes and seconds are between 0 and 60, the short way gives the nearest minute (`NearestMinute`).
use Rattle.prelude.proofs.Logic.{sym}
use lib.Ieee.{round, of_bits}
use Rattle.float64.specs.Ops.{dec}
use Rattle.solar.specs.Setting.{minute_of}
use Rattle.solar.proofs.NearestMinute.{nearest_minute}
use Rattle.solar.proofs.setting.date_minute.Goals as goal

pub float_to_int-result : goal.float_to_int-result
unfolding dec round of_bits
float_to_int-result c =
    (nearest_minute _ _ _ _ _ c.floor-calculated_minutes.ensures c.if-minutes.true c.if-minutes-2.true c.if-seconds.true
    c.if-seconds-2.true).cast

pub overflow_add-result : goal.overflow_add-result
unfolding dec round of_bits
overflow_add-result c =
    record {
      fits = (nearest_minute _ _ _ _ _ c.floor-calculated_minutes.ensures c.if-minutes.true c.if-minutes-2.true
          c.if-seconds.true c.if-seconds-2.true).room;
    }

pub returns-then-seconds-2 : goal.returns-then-seconds-2
unfolding minute_of dec round of_bits
returns-then-seconds-2 c =
    rw (sym c.floor-calculated_minutes.ensures) (nearest_minute _ _ _ _ _ c.floor-calculated_minutes.ensures c.if-minutes.true c.if-minutes-2.true
    c.if-seconds.true c.if-seconds-2.true).is
