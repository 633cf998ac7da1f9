-- A proof for each test, if those before it passed.
use Rattle.prelude.proofs.Logic.{sym, le-leb, lt-leb}
use Rattle.order.specs.Ranges.{rows_fit}
use Rattle.order.proofs.RowDates.{rows_early}
use Rattle.order.proofs.ranges.rows_fit.Goals as goal

pub returns-then-rows-lt1 : goal.returns-then-rows-lt1
unfolding rows_fit
returns-then-rows-lt1 c = simp (sym c.rows_in-rows.ensures, lt-leb _ _ c.if-rows-lt1.true)

pub returns-then-most-rows : goal.returns-then-most-rows
unfolding rows_fit
returns-then-most-rows c =
    let m = c.before.before in
    simp (sym m.most_in-most.ensures, sym m.rows_in-rows.ensures, le-leb _ _ c.if-rows-lt1.false, lt-leb _ _ c.if-most-rows.true)

pub returns-then-date : goal.returns-then-date
returns-then-date c =
    let m = c.before.before.before.before in
    let a = m.args in
    sym (rows_early a.date a.bytes.now m.rows_in-rows.result m.most_in-most.result m.rows_in-rows.ensures
    m.most_in-most.ensures c.if-date.true c.if-rows-lt1.false c.if-most-rows.false)

pub returns : goal.returns
unfolding rows_fit
returns c =
    let n = c.before.before.before.before in
    let m = n.before.before in
    simp (
      c.row-last.ensures,
      sym m.most_in-most.ensures,
      sym m.rows_in-rows.ensures,
      le-leb _ _ n.if-rows-lt1.false,
      le-leb _ _ n.if-most-rows.false,
    )
