-- The result of reading decides first, then the buffer's room.
use Rattle.prelude.proofs.Logic.{sym, ap, ◌∙◌, [], arith, length, le-leb, lt-leb}
use Rattle.text.proofs.TextLaws.{put_front}
use Rattle.order_numbers.specs.Writing.{refused_of, call_in}
use Rattle.order_numbers.proofs.writing.hand_out.Goals as goal

pub returns-then-text-buffer : goal.returns-then-text-buffer
unfolding call_in
returns-then-text-buffer c =
    let a = c.args in
    let short = lt-leb (length a.text.now) (length a.buffer.now) c.if-text-buffer.true in
    let why = c.refuse-then-text-buffer.ensures ∙ ap refused_of c.new.ensures in
    record {
      value = simp (sym c.read.ensures ∙ c.in-Ok.is, short) why;
      buffer_after = simp (sym c.read.ensures ∙ c.in-Ok.is, short);
    }

pub returns-in-Err : goal.returns-in-Err
unfolding call_in
returns-in-Err c =
    record {
      value = simp (sym c.read.ensures ∙ c.in-Err.is) c.refuse.ensures;
      buffer_after = simp (sym c.read.ensures ∙ c.in-Err.is);
    }

pub returns-else-text-buffer : goal.returns-else-text-buffer
unfolding call_in
returns-else-text-buffer c =
    let a = c.args in
    let fits = c.if-text-buffer.false in
    let room = le-leb (length a.text.now) (length a.buffer.now) fits in
    let none = c.none.ensures in
    let copied = c.put.ensures ∙ put_front [] a.text.now a.buffer.now (omega arith) in
    record {
      value = simp (sym c.read.ensures ∙ c.in-Ok.is, room) (λ i. record { refusal = none i; length = length a.text.now });
      buffer_after = simp (sym c.read.ensures ∙ c.in-Ok.is, room) copied;
    }
