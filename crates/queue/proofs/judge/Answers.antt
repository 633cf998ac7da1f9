-- The tests in their order: 17 for a job that is unfit or waits already, then 16 for a full queue.
use Rattle.prelude.proofs.Logic.{sym, ◌∙◌, rules}
use Rattle.queue.proofs.Abstraction.{Whole}
use Rattle.queue.proofs.Answers.{unfit, waiting, free, full}
use Rattle.queue.proofs.judge.Goals as goal

pub returns-then-not-in_range : goal.returns-then-not-in_range
returns-then-not-in_range c = rw c.new.ensures (unfit c.args.queue.now c.args.id c.args.pages (sym c.in_range.ensures ∙ c.if-not-in_range.true))

pub returns-then-waits : goal.returns-then-waits
returns-then-waits c =
    rw c.new-then-waits.ensures
    (waiting c.args.queue.now c.args.id c.args.pages (sym c.in_range.ensures ∙ c.if-not-in_range.false) (sym c.waits.ensures ∙ c.if-waits.true))

pub returns-then-count-lt-MOST_JOBS : goal.returns-then-count-lt-MOST_JOBS
returns-then-count-lt-MOST_JOBS c =
    let q = c.args.queue.now in let w : Whole q = record { ids = search rules; pages = search rules } in
    free q w c.args.id c.args.pages (sym c.in_range.ensures ∙ c.if-not-in_range.false) (sym c.waits.ensures ∙ c.if-waits.false)
    (rw c.count.ensures.0 at c.if-count-lt-MOST_JOBS.true)

pub returns : goal.returns
returns c =
    let q = c.args.queue.now in let w : Whole q = record { ids = search rules; pages = search rules } in
    rw c.new-2.ensures
    (full q w c.args.id c.args.pages (sym c.in_range.ensures ∙ c.if-not-in_range.false) (sym c.waits.ensures ∙ c.if-waits.false)
    (rw c.count.ensures.0 at c.if-count-lt-MOST_JOBS.false))
