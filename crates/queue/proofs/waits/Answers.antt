use Rattle.prelude.proofs.Logic.{sym, ◌∙◌, rules}
use Rattle.queue.proofs.Lists.{any_listed}
use Rattle.queue.proofs.Abstraction.{Whole, jobs-waits}
use Rattle.queue.proofs.waits.Goals as goal

pub returns : goal.returns
returns c =
    let q = c.args.queue.now in let w : Whole q = record { ids = search rules; pages = search rules } in let n = c.count-n.ensures in
    c.contains.ensures.value ∙ rw (← n.0) (any_listed c.args.id _ ∙ sym (jobs-waits q w 0 _ n.1 c.args.id))
