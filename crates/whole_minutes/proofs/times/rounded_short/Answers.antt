use Rattle.prelude.proofs.Logic.{sym, pos}
use Rattle.whole_minutes.proofs.TimesLaws.{nearest_ahead, up_ahead, none_stays}
use Rattle.whole_minutes.proofs.times.rounded_short.Goals as goal

pub returns-in-Nearest : goal.returns-in-Nearest
returns-in-Nearest c = rw c.in-Nearest.is (nearest_ahead c.args.t)

pub returns-in-Up : goal.returns-in-Up
returns-in-Up c = rw c.in-Up.is (up_ahead c.args.t)

pub returns-in-None : goal.returns-in-None
returns-in-None c = rw c.in-None.is (sym (none_stays (pos c.args.t)))
