-- Three ends: a record in turn is written, one out of turn is refused, and so is a log that is itself out of turn.
use Rattle.joblog.specs.Calls.{appended_of}
use Rattle.joblog.proofs.calls.append_read.Goals as goal

pub returns-in-Some : goal.returns-in-Some
unfolding appended_of
returns-in-Some c =
    let n = c.in-Some.ensures in let w = c.write.ensures in
    record {
      value = simp (c.in-Ok.is, n.0) (rw (n.1, n.2) w.value);
      log_after = simp (c.in-Ok.is, n.0) (rw (n.1, n.2) w.log_after);
      second_after = simp (c.in-Ok.is, n.0) (rw (n.1, n.2) w.second_after);
    }

pub returns-in-None : goal.returns-in-None
unfolding appended_of
returns-in-None c =
    let n = c.in-None.ensures in
    record { value = simp (c.in-Ok.is, n) c.refuse.ensures; log_after = simp (c.in-Ok.is, n); second_after = simp (c.in-Ok.is, n) }

pub returns-in-Err : goal.returns-in-Err
unfolding appended_of
returns-in-Err c =
    let read = c.in-Err.is in
    record { value = simp (read, ← c.from.ensures) c.refuse-in-Err.ensures; log_after = simp read; second_after = simp read }
