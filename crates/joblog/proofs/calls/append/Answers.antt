-- `append` is `append_of`: it refuses a `used` over the buffer, else it reads the log and passes that to `append_read`.
use Rattle.prelude.proofs.Logic.{sym, arith, length, length-take-le, le-leb, lt-leb}
use Rattle.joblog.specs.Calls.{append_of}
use Rattle.joblog.proofs.calls.append.Goals as goal

pub returns-then-used-log : goal.returns-then-used-log
unfolding append_of
returns-then-used-log c =
    let over = lt-leb _ _ c.if-used-log.true in
    record { value = simp over c.refuse.ensures; log_after = simp over; second_after = simp over }

pub slice_bounds-scan-end-2 : goal.slice_bounds-scan-end-2
unfolding append_of
slice_bounds-scan-end-2 c = let a = c.args in sym (length-take-le a.used a.log.now (omega arith))

pub returns : goal.returns
unfolding append_of
returns c =
    let a = c.args in let within = le-leb a.used (length a.log.now) (omega arith) in let e = c.append_read.ensures in
    let read = c.scan-reading.ensures in
    record {
      value = simp (within, ← read) e.value;
      log_after = simp (within, ← read) e.log_after;
      second_after = simp (within, ← read) e.second_after;
    }
