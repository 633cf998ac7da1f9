-- Two ends: the record is written after the whole ones if five bytes are left there; else the log is compacted with it.
use Rattle.prelude.proofs.Logic.{◌+◌, arith, length, le-leb, lt-leb}
use Rattle.joblog.specs.{Records.whole_of, Calls.logged_of}
use Rattle.joblog.proofs.calls.write.Goals as goal

pub returns-then-log-at-ge5 : goal.returns-then-log-at-ge5
unfolding logged_of
returns-then-log-at-ge5 c =
    let at-put = c.before.before.before.before.before in let at-if = at-put.before.before in
    let a = at-if.args in let w = at-if.whole-at.ensures in
    let room = le-leb (whole_of a.used + 5) (length a.log.now) (omega (arith, at-if.if-log-at-ge5.true)) in
    record {
      value = simp (c.answer.ensures, c.with.ensures, w, room);
      log_after = simp (at-put.put_record.ensures, w, room);
      second_after = simp room;
    }

pub returns : goal.returns
unfolding logged_of
returns c =
    let compacted = c.compact_with in let at-if = c.before.before.before.before in
    let a = at-if.args in let w = at-if.whole-at.ensures in
    let full = lt-leb (whole_of a.used + 5) (length a.log.now) (omega (arith, at-if.if-log-at-ge5.false)) in
    record {
      value = simp full compacted.ensures.value;
      log_after = simp full;
      second_after = simp full compacted.ensures.second_after;
    }
