-- The order lacks the page, or has a page of it: a full one, or the last one with the rows that are left.
use Rattle.prelude.proofs.Logic.{arith}
use Rattle.pages.proofs.PageLaws.{page-none, page-length}
use Rattle.pages.proofs.page.rows_on.Goals as goal

pub returns-then-page-eq0 : goal.returns-then-page-eq0
returns-then-page-eq0 c = let a = c.args in page-none a.order a.page c.if-page-eq0.true

pub returns-then-before-order : goal.returns-then-before-order
returns-then-before-order c =
    let a = c.args in
    let n = page-length a.order a.page (omega (arith, c.if-page-eq0.false)) in
    omega (arith, c.if-before-order.true)

pub returns : goal.returns
returns c =
    let a = c.args in
    let n = page-length a.order a.page (omega (arith, c.if-page-eq0.false)) in
    omega (arith, c.if-before-order.false, c.min.ensures)
