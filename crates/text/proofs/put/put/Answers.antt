use Rattle.prelude.proofs.Logic.{◌≡◌, refl, sym, ◌∙◌, ◌+◌, add-one, arith, length, take-length, get_or, set, length-set, paste, paste-zero, paste-suc, le-leb}
use Rattle.text.specs.Text.{put_of}
use Rattle.text.proofs.put.put.Goals as goal

pub loop-i-init : goal.loop-i-init
loop-i-init c = (refl, paste-zero c.args.buffer.now c.args.at c.args.text.now)

pub loop-i-preserved : goal.loop-i-preserved
loop-i-preserved c =
    let l = c.loop-i in let a = c.args in
    let e : set l.buffer (a.at + l.i) (get_or a.text.now l.i 0) ≡ paste a.buffer.now a.at a.text.now (l.i + 1) =
    rw (l.invariant.1, add-one l.i) (paste-suc a.buffer.now a.at a.text.now l.i 0 (omega arith) c.loop-i-test.true) in
    (length-set l.buffer _ _ ∙ l.invariant.0, e)

pub returns-after-loop-i : goal.returns-after-loop-i
unfolding put_of
returns-after-loop-i c =
    let l = c.loop-i in let a = c.args in
    let room = le-leb (a.at + length a.text.now) (length a.buffer.now) (omega arith) in
    let e : l.i ≡ length a.text.now = omega arith in
    simp room (simp (take-length a.text.now) at (rw e at l.invariant.1))
