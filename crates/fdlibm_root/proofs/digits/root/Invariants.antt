use Rattle.fdlibm_root.proofs.Squares.{Kept}
use Rattle.fdlibm_root.proofs.digits.root.Given as goal

abbrev pub invariant-loop : goal.invariant-loop
invariant-loop l = Kept l.m l.q l.left l.rest l.counter
