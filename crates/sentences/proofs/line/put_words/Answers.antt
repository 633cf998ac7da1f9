use Rattle.prelude.proofs.Logic.{sym, ◌∙◌, arith, rules}
use Rattle.sentences.proofs.Making.{text_put, both_put, no_text, some_text}
use Rattle.sentences.proofs.line.put_words.Goals as goal

pub returns-then-is_empty : goal.returns-then-is_empty
returns-then-is_empty c =
    let e = no_text c.args.number c.args.place c.args.line.now _ c.text_of-text.ensures (sym c.is_empty.ensures ∙ c.if-is_empty.true) in
    record { value = e.0; line_after = e.1 }

pub returns-then-not-ends_with : goal.returns-then-not-ends_with
returns-then-not-ends_with c =
    let w = text_put c.args.number c.args.place c.args.line.now _ _ c.text_of-text.ensures (search rules)
    (rw c.as_bytes.ensures.value at c.put.ensures)
    (sym (c.ends_with.ensures.byte (omega arith) (omega arith) (λ w o e. e)) ∙ c.if-not-ends_with.true) in
    let k = some_text c.args.number c.args.place c.args.line.now _ c.text_of-text.ensures (sym c.is_empty.ensures ∙ c.if-is_empty.false) in
    record { value = (k, w.0); line_after = w.1 }

pub returns : goal.returns
returns c =
    let w = both_put c.args.number c.args.place c.args.line.now _ _ c.text_of-text.ensures (search rules)
    (rw c.as_bytes.ensures.value at c.put.ensures) _ _ c.name_of-name.ensures
    (rw c.as_bytes-2.ensures.value at c.put-2.ensures)
    (sym (c.ends_with.ensures.byte (omega arith) (omega arith) (λ w o e. e)) ∙ c.if-not-ends_with.false) in
    let k = some_text c.args.number c.args.place c.args.line.now _ c.text_of-text.ensures (sym c.is_empty.ensures ∙ c.if-is_empty.false) in
    record { value = (k, w.0); line_after = w.1 }
