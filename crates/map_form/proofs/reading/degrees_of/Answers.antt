-- A law for each branch.
use Rattle.map_form.proofs.Quotient.{negative, naught, plain}
use Rattle.map_form.proofs.reading.degrees_of.Goals as goal
use Rattle.map_form.proofs.reading.degrees_of.Goals.{else-form-eq1-via-then-form-eq1+else-n-gt0, else-form-eq1-via-else-form-eq1}

pub returns-then-n-gt0 : goal.returns-then-n-gt0
returns-then-n-gt0 c =
    let n = c.size-n in
    negative _ n.result _ n.ensures.0 n.ensures.1 c.if-form-eq1.true c.if-n-gt0.true

pub returns-else-form-eq1 : goal.returns-else-form-eq1
returns-else-form-eq1 c =
    let n = c.size-n in
    elim c.else-form-eq1.branch [
      | else-form-eq1-via-then-form-eq1+else-n-gt0 w ↦ naught _ n.result _ n.ensures.0 n.ensures.1 w.if-form-eq1.true w.if-n-gt0.false
      | else-form-eq1-via-else-form-eq1 w ↦ plain _ n.result _ n.ensures.0 n.ensures.1 w.if-form-eq1.false
    ]
