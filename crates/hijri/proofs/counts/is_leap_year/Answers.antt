use Rattle.prelude.proofs.Logic.{sym}
use Rattle.hijri.proofs.YearSteps.{leap_by_remainder}
use Rattle.hijri.proofs.counts.is_leap_year.Goals as goal

pub returns : goal.returns
returns c = sym (leap_by_remainder c.args.year)
