-- The walk needs an order of at most 1,024 bytes.
use Rattle.prelude.proofs.Logic.{sym, lt-ltb, le-ltb}
use Rattle.refusals.specs.Refusals.{unless_refused}
use Rattle.fields.specs.Fields.{check_of}
use Rattle.fields.proofs.plain.check.Goals as goal

pub returns-then-order-gt-LONGEST_ORDER : goal.returns-then-order-gt-LONGEST_ORDER
unfolding check_of unless_refused
returns-then-order-gt-LONGEST_ORDER c = simp (c.new.ensures, lt-ltb _ _ c.if-order-gt-LONGEST_ORDER.true)

pub returns : goal.returns
unfolding check_of
returns c = simp (sym c.walk.ensures, le-ltb _ _ c.if-order-gt-LONGEST_ORDER.false)
