-- Three ends: an unknown number, no room, or the sentence at the front and the other bytes as they were.
use Rattle.std.proofs.Common.{◌∙◌, sym, ap, ◌<◌, length, arith, rules}
use Rattle.sentences.specs.{Guess.none, Sentences.SentenceCall}
use Rattle.sentences.proofs.{Promises.printed, Making.writes, Making.writes_unknown, Making.writes_no_room}
use Rattle.sentences.proofs.sentence.write_sentence.Goals as goal

pub returns-in_default : goal.returns-in_default
returns-in_default c =
    let w = sym (writes_unknown _ c.args.place c.args.buffer.now c.in_default.ensures) in
    record {
      value = c.refuse.ensures ∙ ap (λ (call : SentenceCall). call.answer) w;
      buffer_after = ap (λ (call : SentenceCall). call.buffer) w;
    }

pub returns-then-sentence-buffer : goal.returns-then-sentence-buffer
returns-then-sentence-buffer c =
    let s = c.in-Some.ensures in
    let w = sym (writes_no_room c.args.number c.args.place _ s.0 (rw s.1 at c.if-sentence-buffer.true)) in
    record {
      value = c.refuse-then-sentence-buffer.ensures ∙ ap (λ (call : SentenceCall). call.answer) w;
      buffer_after = ap (λ (call : SentenceCall). call.buffer) w;
    }

pub overflow_cast-result : goal.overflow_cast-result
overflow_cast-result c =
    let a = c.args in let h : a.place < none = search rules in
    record { fits = omega (arith, ap length c.in-Some.ensures.1, (printed a.number a.place h).0) }

pub returns : goal.returns
returns c =
    let s = c.in-Some.ensures in
    let w = sym (writes c.args.number c.args.place _ c.args.buffer.now s.0 (ap length s.1) c.if-sentence-buffer.false) in
    record {
      value = ap (λ (call : SentenceCall). call.answer) w;
      buffer_after = rw s.1 at c.put.ensures ∙ ap (λ (call : SentenceCall). call.buffer) w;
    }
