use Rattle.prelude.proofs.Logic.{sym, rules, w64, SFits}
use mir.ValLaws.{to_z-of_z}
use Rattle.hijri.proofs.ramadan.first_of_ramadan.Goals as goal

pub returns : goal.returns
returns c =
    let f : SFits w64 c.day_number.result = search rules in
    let e = c.day_number.ensures in
    let n = c.new.ensures in
    simp (to_z-of_z w64 c.day_number.result f, sym e, sym n)
