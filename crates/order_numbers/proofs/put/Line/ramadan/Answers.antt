-- Nothing is put if the struct says nothing of Ramadan.
use Rattle.prelude.proofs.Logic.{◌≡◌, sym, ◌∙◌, true, false, append-nil}
use Rattle.order_numbers.specs.Bytes.{field_bytes, joined}
use Rattle.order_numbers.specs.Values.{unsaid, ramadan_fields, written}
use Rattle.order_numbers.proofs.put.Line.ramadan.Goals as goal

pub returns-then-is_unsaid-clause-line_after : goal.returns-then-is_unsaid-clause-line_after
unfolding joined ramadan_fields
returns-then-is_unsaid-clause-line_after c =
    let t : unsaid c.args.c ≡ true = sym c.is_unsaid.ensures ∙ c.if-is_unsaid.true in
    simp t (sym (append-nil (written c.args.self.now)))

pub returns-clause-line_after : goal.returns-clause-line_after
unfolding joined ramadan_fields
returns-clause-line_after c =
    let t : unsaid c.args.c ≡ false = sym c.is_unsaid.ensures ∙ c.if-is_unsaid.false in
    simp (t, append-nil (field_bytes 20 c.ramadan_bytes.result), ← c.ramadan_bytes.ensures) c.field.ensures.line_after
