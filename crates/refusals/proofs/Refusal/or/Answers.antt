use Rattle.prelude.proofs.Logic.{eq-eqb, ne_eqb}
use Rattle.refusals.specs.Refusals.{or_of}
use Rattle.refusals.proofs.Refusal.or.Goals as goal

pub returns-then-self-ne0 : goal.returns-then-self-ne0
unfolding or_of
returns-then-self-ne0 c = simp (ne_eqb _ _ c.if-self-ne0.true)

pub returns : goal.returns
unfolding or_of
returns c = simp (eq-eqb _ _ c.if-self-ne0.false)
