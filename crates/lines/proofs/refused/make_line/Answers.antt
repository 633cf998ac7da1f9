-- The words and the two numbers, put one after another, are the refusal's text.
use Rattle.prelude.proofs.Logic.{◌≡◌, arith, length}
use Rattle.text.specs.Text.{ascii}
use Rattle.lines.proofs.LinesLaws.{number_length}
use Rattle.lines.proofs.Making.{line_made}
use Rattle.lines.proofs.refused.make_line.Goals as goal

pub put_number-end-requires-2 : goal.put_number-end-requires-2
put_number-end-requires-2 c =
    let a = c.args in
    let p = c.requires in
    let n = c.put_number-end in
    let x = number_length (ascii " refused ") a.refusal.number in
    let e = n.ensures.value in
    let k : length n.new.line ≡ length c.put.new.buffer = n.auto.line in
    let j : length c.put.new.buffer ≡ length a.line.now =
    c.put.auto.buffer in
    (p.1, omega (arith, p.0, p.1, p.2), omega (arith, p.2))

pub overflow_add-result : goal.overflow_add-result
overflow_add-result c =
    let a = c.args in
    let p = c.requires in
    let x = number_length (ascii " refused ") a.refusal.number in
    let y = number_length a.word.now a.refusal.place in
    let m = c.put_number-end.ensures.value in
    let n = c.put_number-end-2.ensures.value in
    record { fits = omega (arith, p.0, p.1) }

pub returns : goal.returns
returns c =
    let a = c.args in
    let p = c.requires in
    let m = c.put_number-end.ensures in
    let n = c.put_number-end-2.ensures in
    let t = line_made a.line.now a.whose.now a.word.now a.refusal p.0 p.1 p.2 _ _ _ _ _ _
    c.put.ensures m.value m.line_after n.value n.line_after c.put-2.ensures in
    record { value = t.0; line_after = t.1 }
