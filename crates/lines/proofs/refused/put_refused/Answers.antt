-- The line is made in an array of its own, and its bytes are put at the offset.
use Rattle.prelude.proofs.Logic.{◌≡◌, sym, ap, ◌∙◌, arith, length}
use Rattle.text.proofs.TextLaws.{cut_front}
use Rattle.lines.specs.Lines.{refused_text}
use Rattle.lines.proofs.LinesLaws.{refused_length}
use Rattle.lines.proofs.refused.put_refused.Goals as goal

pub slice_bounds-line-end : goal.slice_bounds-line-end
slice_bounds-line-end c =
    let a = c.args in
    let m = c.make_line-end in
    let p = c.requires in
    let e = m.ensures.value in
    let l = refused_length a.whose.now a.word.now a.refusal in
    let k : length m.new.line ≡ 70 = m.auto.line in
    omega (arith, p.0, p.1)

pub slice_bounds-put-end : goal.slice_bounds-put-end
slice_bounds-put-end c =
    let a = c.args in
    let m = c.make_line-end in
    m.ensures.value ∙ sym (ap length
    (cut_front (refused_text a.whose.now a.word.now a.refusal) _ m.new.line m.result m.ensures.value m.ensures.line_after))

pub returns : goal.returns
returns c =
    let a = c.args in
    let m = c.make_line-end in
    let t =
    cut_front (refused_text a.whose.now a.word.now a.refusal) _ m.new.line m.result m.ensures.value m.ensures.line_after in
    record {
      value = m.ensures.value;
      buffer_after = rw t at c.put.ensures;
    }
