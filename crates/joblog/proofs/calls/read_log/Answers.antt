-- `read_log` is `read_log_of`: the part that is read is the first `used` bytes.
use Rattle.prelude.proofs.Logic.{sym, arith, length, length-take-le, le-leb, lt-leb}
use Rattle.joblog.specs.Calls.{read_log_of}
use Rattle.joblog.proofs.calls.read_log.Goals as goal

pub returns-then-used-log : goal.returns-then-used-log
unfolding read_log_of
returns-then-used-log c = simp (sym c.refuse.ensures, lt-leb _ _ c.if-used-log.true)

pub slice_bounds-scan-end : goal.slice_bounds-scan-end
unfolding read_log_of
slice_bounds-scan-end c = let a = c.args in sym (length-take-le a.used a.log.now (omega arith))

pub returns : goal.returns
unfolding read_log_of
returns c =
    let a = c.args in
    simp (le-leb a.used (length a.log.now) (omega arith), ← c.scan.ensures) c.read_answer.ensures
