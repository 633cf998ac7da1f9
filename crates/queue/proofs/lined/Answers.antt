use Rattle.prelude.proofs.Logic.{refl, rules}
use Rattle.queue.proofs.Abstraction.{Whole, lined-jobs}
use Rattle.queue.proofs.lined.Goals as goal

pub returns : goal.returns
returns c =
    let q = c.args.queue.now in let w : Whole q = record { ids = search rules; pages = search rules } in
    (rw (c.part.ensures, c.part-2.ensures) (lined-jobs q w c.args.from c.args.to c.requires.1), refl)
