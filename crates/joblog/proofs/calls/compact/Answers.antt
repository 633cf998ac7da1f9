-- Compaction writes all of `compactedOf` at the front of the second buffer, or nothing if it is too short.
use Rattle.prelude.proofs.Logic.{sym, ◌≤◌, ◌<◌, arith, length, le-leb, lt-leb}
use Rattle.joblog.proofs.CompactLaws.{compacted_length, put_none}
use Rattle.joblog.specs.{Records.compacted_of, Calls.compact_answer}
use Rattle.joblog.proofs.calls.compact.Goals as goal

pub returns-then-open_pages-second : goal.returns-then-open_pages-second
unfolding compact_answer
returns-then-open_pages-second c =
    let a = c.args in let n = compacted_length a.s in
    let o = c.open_pages.ensures in
    let h : length a.second.now < length (compacted_of a.s) = omega (arith, c.if-open_pages-second.true) in
    record {
      value = simp (lt-leb _ _ h) c.refuse.ensures;
      second_after = sym (put_none a.second.now (compacted_of a.s) h);
    }

pub put_compacted-used-requires : goal.put_compacted-used-requires
put_compacted-used-requires c =
    let a = c.args in let n = compacted_length a.s in
    omega (arith, c.open_pages.ensures, c.if-open_pages-second.false)

pub returns : goal.returns
unfolding compact_answer
returns c =
    let put = c.before.before.before in let at-if = put.before.before in let a = at-if.args in
    let n = compacted_length a.s in let o = at-if.open_pages.ensures in
    let h : length (compacted_of a.s) ≤ length a.second.now = omega (arith, at-if.if-open_pages-second.false) in
    record {
      value = simp (le-leb _ _ h, ← put.put_compacted-used.ensures.value) c.answer.ensures;
      second_after = put.put_compacted-used.ensures.buffer_after;
    }
