-- Three ends: a count between finished and sent compacts the log, any other count is refused, and so is a log that is out of turn.
use Rattle.joblog.specs.Calls.{restarted_of}
use Rattle.joblog.proofs.calls.restart_read.Goals as goal

pub returns-in-Some : goal.returns-in-Some
unfolding restarted_of
returns-in-Some c =
    let n = c.in-Some.ensures in let w = c.compact.ensures in
    record { value = simp (c.in-Ok.is, n.0) (rw n.1 at w.value); second_after = simp (c.in-Ok.is, n.0) (rw n.1 at w.second_after) }

pub returns-in-None : goal.returns-in-None
unfolding restarted_of
returns-in-None c =
    let n = c.in-None.ensures in
    record { value = simp (c.in-Ok.is, n) c.refuse.ensures; second_after = simp (c.in-Ok.is, n) }

pub returns-in-Err : goal.returns-in-Err
unfolding restarted_of
returns-in-Err c =
    let read = c.in-Err.is in
    record { value = simp (read, ← c.from.ensures) c.refuse-in-Err.ensures; second_after = simp read }
