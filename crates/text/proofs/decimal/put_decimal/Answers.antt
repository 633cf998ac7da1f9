-- Invariant: the digits of `rest`, and then those already in the array, are the digits of n (`Spelled`).
use Rattle.prelude.proofs.Logic.{refl, append-nil, ◌-◌, arith}
use Rattle.text.specs.Text.{decimal_of}
use Rattle.text.proofs.Spelling.{last_digit, one_more}
use Rattle.text.proofs.decimal.put_decimal.Goals as goal

pub loop-first-init : goal.loop-first-init
loop-first-init c =
    record {
      spelled = record {
        long = refl;
        short = omega (arith, c.ranges.n.fits);
        left = λ h. absurd (omega arith);
        text = append-nil (decimal_of c.args.n);
      };
      same = refl;
    }

pub loop-first-preserved : goal.loop-first-preserved
loop-first-preserved c =
    let l = c.loop-first in
    let s = one_more c.args.n l.digits l.first l.rest (l.first - 1) (omega arith) (omega arith) l.invariant.spelled (omega arith) in
    record { spelled = rw c.digit.ensures s; same = l.invariant.same }

pub returns-then-rest-eq0 : goal.returns-then-rest-eq0
returns-then-rest-eq0 c =
    let l = c.loop-first in
    let d = last_digit c.args.n l.digits l.first l.rest (l.first - 1) (omega arith) (omega arith) l.invariant.spelled c.if-rest-eq0.true in
    record { value = d.0; buffer_after = rw (l.invariant.same, d.1) at (rw c.digit.ensures at c.put.ensures) }
