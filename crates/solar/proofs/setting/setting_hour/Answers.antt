use Rattle.prelude.proofs.Logic.{sym}
use Rattle.float64.proofs.Floats.{round, of_bits, dec}
use Rattle.solar.specs.Setting.{setting_hour_of}
use Rattle.solar.proofs.setting.setting_hour.Goals as goal

pub date_hour-requires : goal.date_hour-requires
unfolding dec round of_bits setting_hour_of
date_hour-requires c = (c.if-value.true, c.if-value-2.true)

pub returns-then-is_normal : goal.returns-then-is_normal
unfolding setting_hour_of
returns-then-is_normal c =
    let e0 = c.hour.ensures in
    let e1 = c.minute.ensures in
    let e2 = c.hour_adjustment.ensures in
    let e3 = c.floor-hours.ensures in
    let e4 = c.is_normal.ensures in
    simp (sym e0, sym e1, sym e2, sym e3, sym e4, c.if-is_normal.true)

pub returns : goal.returns
unfolding dec round of_bits setting_hour_of
returns c = let e0 = c.is_normal.ensures in simp (sym e0, c.if-is_normal.false)
