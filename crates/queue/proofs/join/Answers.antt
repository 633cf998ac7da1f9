-- A job that is not refused has room at the back. A refused job leaves the queue as it was.
use Rattle.prelude.proofs.Logic.{arith, rules}
use Rattle.queue.proofs.Abstraction.{Whole}
use Rattle.queue.proofs.Answers.{room, join_admitted, join_refused}
use Rattle.queue.proofs.join.Goals as goal

pub returns-in-Err : goal.returns-in-Err
returns-in-Err c = join_refused c.args.queue c.args.id c.args.pages _ (search rules)

pub with_last-q-requires : goal.with_last-q-requires
with_last-q-requires c =
    let q = c.args.queue in let w : Whole q = record { ids = search rules; pages = search rules } in
    let few = room q w c.args.id c.args.pages (search rules) in
    omega (arith, c.lined.ensures.1, c.count-n.ensures.0)

pub returns : goal.returns
returns c =
    rw (c.none.ensures, c.with_last-q.ensures, c.lined.ensures.0)
    (join_admitted c.args.queue _ c.count-n.ensures.0 c.args.id c.args.pages (search rules))
