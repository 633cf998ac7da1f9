-- Three ends: no job waits, the front job leaves with its last page, or it goes to the back.
use Rattle.prelude.proofs.Logic.{arith, rules}
use Rattle.queue.proofs.Abstraction.{Whole}
use Rattle.queue.proofs.Answers.{turn-empty, turn-leaves, turn-back}
use Rattle.queue.proofs.turn.Goals as goal

pub returns-then-n-eq0 : goal.returns-then-n-eq0
returns-then-n-eq0 c =
    let q = c.args.queue in let w : Whole q = record { ids = search rules; pages = search rules } in
    turn-empty q w c.count-n.result c.count-n.ensures.0 c.if-n-eq0.true

pub returns-then-pages-eq0 : goal.returns-then-pages-eq0
returns-then-pages-eq0 c =
    let q = c.args.queue in let w : Whole q = record { ids = search rules; pages = search rules } in
    let p = c.saturating_sub-pages.ensures in
    rw (c.lined-rest.ensures.0, c.if-pages-eq0.true)
    (turn-leaves q w c.count-n.result c.count-n.ensures.0 (search rules) (omega (arith, p, c.if-pages-eq0.true)))

pub returns : goal.returns
returns c =
    let q = c.args.queue in let w : Whole q = record { ids = search rules; pages = search rules } in
    let p = c.saturating_sub-pages.ensures in
    rw (c.with_last-q.ensures, c.lined-rest.ensures.0, p)
    (turn-back q w c.count-n.result c.count-n.ensures.0 (search rules) (omega (arith, p, c.if-pages-eq0.false)))
