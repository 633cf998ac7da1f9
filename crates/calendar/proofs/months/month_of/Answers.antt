use Rattle.prelude.proofs.Logic.{sym, lt-ltb, le-ltb}
use Rattle.calendar.proofs.MonthTables.{month_searched}
use Rattle.calendar.proofs.months.month_of.Goals as goal
use Rattle.calendar.proofs.months.month_of.Goals.{else-guess-lt12-via-then-guess-lt12+else-days_before-ordinal, else-guess-lt12-via-else-guess-lt12}

pub returns-then-days_before-ordinal : goal.returns-then-days_before-ordinal
returns-then-days_before-ordinal c =
    let s = c.before.before.before in
    rw (← month_searched s.args.leap s.args.ordinal s.requires.0 s.requires.1)
    (simp (lt-ltb _ _ c.if-guess-lt12.true, sym c.days_before.ensures, lt-ltb _ _ c.if-days_before-ordinal.true))

pub returns-else-guess-lt12 : goal.returns-else-guess-lt12
returns-else-guess-lt12 c =
    rw (← month_searched c.args.leap c.args.ordinal c.requires.0 c.requires.1)
    (elim c.else-guess-lt12.branch [
      | else-guess-lt12-via-then-guess-lt12+else-days_before-ordinal w ↦
          simp (lt-ltb _ _ w.if-guess-lt12.true, sym w.days_before.ensures, le-ltb _ _ w.if-days_before-ordinal.false)
      | else-guess-lt12-via-else-guess-lt12 w ↦ simp (le-ltb _ _ w.if-guess-lt12.false)
    ])
