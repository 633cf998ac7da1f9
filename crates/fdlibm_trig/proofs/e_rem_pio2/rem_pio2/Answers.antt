-- The tests of the code are those of `rem_pio2_of`, in the same order; x or -x is the size of x (`Signs`).
use Rattle.prelude.proofs.Logic.{sym, arith, le-ltb, lt-leb}
use Rattle.fdlibm_trig.specs.RemPio2.{rem_pio2_of}
use Rattle.fdlibm_trig.proofs.Signs.{negative_size, plain_size}
use Rattle.fdlibm_trig.proofs.e_rem_pio2.rem_pio2.Goals as goal

pub returns-then-x-2 : goal.returns-then-x-2
unfolding rem_pio2_of
returns-then-x-2 c =
    let d = c.before.before.before in let size = negative_size d.args.x
    c.if-x-2.true in let e3 = d.high_word-ix.ensures in
    simp (c.turned.ensures, c.medium.ensures, size, e3)
    (simp (c.if-x-2.true, le-ltb _ _ (simp (e3) at d.if-ix-lt1073928572.false))
    (simp (lt-leb _ _ (simp (e3) at d.if-ix-le1072243195.false))))

pub returns-else-x-2 : goal.returns-else-x-2
unfolding rem_pio2_of
returns-else-x-2 c =
    let d = c.before.before.before in
    let x = d.args.x in
    let i = d.high_word-ix.ensures in
    let size = plain_size x c.if-x-2.false (omega (arith, i, c.if-ix-lt1073928572.false)) in
    simp (size, sym c.medium-else-x-2.ensures, sym i)
    (simp (c.if-x-2.false, le-ltb _ _ c.if-ix-lt1073928572.false, lt-leb _ _ d.if-ix-le1072243195.false))
