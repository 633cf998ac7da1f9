-- As in `compact`, with the new record after the open pages: the two puts are one put of the two texts.
use Rattle.prelude.proofs.Logic.{◌≡◌, sym, ◌++◌, ◌+◌, ◌≤◌, ◌<◌, arith, length, le-leb, lt-leb}
use Rattle.joblog.proofs.CallLaws.{with_length, put_with}
use Rattle.joblog.proofs.CompactLaws.{compacted_length, put_none}
use Rattle.joblog.specs.{Records.bytes_of, Records.compacted_of, Parts.tag_of, Calls.compact_answer}
use Rattle.joblog.proofs.calls.compact_with.Goals as goal

pub returns-then-open_pages-second : goal.returns-then-open_pages-second
unfolding compact_answer
returns-then-open_pages-second c =
    let a = c.args in
    let text = compacted_of a.s ++ bytes_of (tag_of a.kind) a.page in
    let n = with_length a.s (tag_of a.kind) a.page in
    let o = c.open_pages.ensures in
    let h : length a.second.now < length text = omega (arith, c.if-open_pages-second.true) in
    record {
      value = simp (lt-leb _ _ h, ← c.from.ensures) c.refuse.ensures;
      second_after = sym (put_none a.second.now text h);
    }

pub put_compacted-at-requires : goal.put_compacted-at-requires
put_compacted-at-requires c =
    let a = c.args in let n = compacted_length a.s in
    omega (arith, c.open_pages.ensures, c.if-open_pages-second.false)

pub overflow_add-at : goal.overflow_add-at
overflow_add-at c =
    let at-put = c.before.before.before.before.before.before.before.before in let at-if = at-put.before.before in
    let n = compacted_length at-if.args.s in
    omega (arith, at-if.open_pages.ensures, at-put.put_compacted-at.ensures.value, at-if.if-open_pages-second.false)

pub returns : goal.returns
unfolding compact_answer
returns c =
    let at-record = c.before.before.before.before.before in let at-put = at-record.before.before.before.before in
    let at-if = at-put.before.before in let a = at-if.args in
    let first = at-put.put_compacted-at in let at = first.result in
    let text = compacted_of a.s ++ bytes_of (tag_of a.kind) a.page in
    let n = with_length a.s (tag_of a.kind) a.page in let m = compacted_length a.s in
    let o = at-if.open_pages.ensures in let e = first.ensures.value in
    let h : length text ≤ length a.second.now = omega (arith, at-if.if-open_pages-second.false) in
    let k : at + 5 ≡ length text = omega arith in
    record {
      value = simp (c.answer.ensures, c.with.ensures, le-leb _ _ h, k);
      second_after = put_with a.s (tag_of a.kind) a.page at a.second.now first.new.buffer at-record.put_record.new.buffer
          first.ensures.buffer_after e at-record.put_record.ensures h;
    }
