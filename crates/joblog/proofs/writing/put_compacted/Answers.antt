use Rattle.prelude.proofs.Logic.{◌≡◌, refl, ap, ◌∙◌, ◌+◌, ◌-◌, ◌*◌, ◌≤◌, arith, length}
use Rattle.joblog.specs.Records.{bytes_of}
use Rattle.joblog.proofs.CompactLaws.{put_length, compacted_length, put_none_open, put_open, put_whole}
use Rattle.joblog.proofs.writing.put_compacted.Goals as goal

pub loop-page-init : goal.loop-page-init
loop-page-init c =
    let s = c.args.s in let put = c.put_record in let n = compacted_length s in
    let l = ap length put.ensures ∙ put_length c.args.buffer.now (bytes_of 3 s.finished) 0 in
    let room : 5 + 5 * (s.sent - s.finished) ≤ length put.new.buffer = omega (arith, l, n, c.requires) in
    (omega arith, omega arith, refl, room, put_none_open put.new.buffer s.finished (omega arith))

pub loop-page-preserved : goal.loop-page-preserved
loop-page-preserved c =
    let l = c.loop-page in let i = l.invariant in let now = c.put_record-in-loop-page in
    let long = ap length now.ensures ∙ put_length l.buffer (bytes_of 1 (l.page + 1)) l.at ∙ i.2 in
    let f = now.ensures ∙ put_open c.put_record.new.buffer l.buffer c.args.s.finished l.page l.at i.4 i.1 (omega arith) (omega arith) in
    (omega arith, omega arith, long, i.3, f)

pub returns : goal.returns
returns c =
    let s = c.args.s in let l = c.loop-page in let n = compacted_length s in
    let k : l.page - s.finished ≡ s.sent - s.finished = omega arith in
    record {
      value = omega arith;
      buffer_after = put_whole c.args.buffer.now c.put_record.new.buffer l.buffer s l.page c.put_record.ensures l.invariant.4 k c.requires;
    }
