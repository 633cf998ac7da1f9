-- `restart` is `restart_of`: it refuses a `used` over the buffer, else it reads the log and passes that to `restart_read`.
use Rattle.prelude.proofs.Logic.{◌∙◌, sym, arith, length, length-take-le, le-leb, lt-leb}
use Rattle.joblog.proofs.CallLaws.{restarted_any}
use Rattle.joblog.specs.Calls.{restart_of}
use Rattle.joblog.proofs.calls.restart.Goals as goal

pub returns-then-used-log : goal.returns-then-used-log
unfolding restart_of
returns-then-used-log c =
    let over = lt-leb _ _ c.if-used-log.true in
    record {
      value = simp (sym c.refuse.ensures, over);
      second_after = simp over;
    }

pub slice_bounds-scan-end : goal.slice_bounds-scan-end
slice_bounds-scan-end c = let a = c.args in sym (length-take-le a.used a.log.now (omega arith))

pub returns : goal.returns
unfolding restart_of
returns c =
    let at-scan = c.before.before.before.before in let read = at-scan.scan in
    let a = at-scan.args in
    let any = restarted_any read.result a.log.now a.count a.second.now in
    let w = c.restart_read.ensures in
    let within = le-leb a.used (length a.log.now) (omega arith) in let says = read.ensures in
    record {
      value = simp (within, ← says) (w.value ∙ any.0);
      second_after = simp (within, ← says) (w.second_after ∙ any.1);
    }
