-- The loop keeps `Kept`. After the 54th turn it says that q is the root.
use Rattle.prelude.proofs.Logic.{refl, arith, lit<, lit≤}
use Rattle.fdlibm_root.proofs.Squares.{next_one, next-none, last}
use Rattle.fdlibm_root.proofs.digits.root.Goals as goal
use Rattle.fdlibm_root.proofs.digits.root.Goals.{then-q-p, else-q-p}

pub loop-init : goal.loop-init
loop-init c =
    record { turns = lit≤ tt; digits = lit< tt; small = lit< tt; whole = lit≤ tt; room = c.requires; taken = omega arith }

pub loop-preserved : goal.loop-preserved
loop-preserved c =
    let m = c.args.m in let l = c.loop in let t = c.loop-test.true in
    elim c.if-q-p.branch [
      | then-q-p w ↦ rw (w.left-is, w.q-is) (next_one m l.q l.left l.rest l.counter _ l.invariant t refl w.if-q-p.true)
      | else-q-p w ↦ rw (w.left-is, w.q-is) (next-none m l.q l.left l.rest l.counter _ l.invariant t refl w.if-q-p.false)
    ]

pub returns : goal.returns
returns c = let l = c.loop in (last c.args.m l.q l.left l.rest l.counter l.invariant c.loop-test.false, l.invariant.small)
