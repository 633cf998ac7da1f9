use Rattle.prelude.proofs.Logic.{rules, ap, ◌∙◌, w32, SFits, to_z-of_z, eq-eqb, ne_eqb}
use Rattle.order_numbers.specs.Bytes.{shift_byte}
use Rattle.order_numbers.specs.Values.{ramadan_bytes}
use Rattle.order_numbers.proofs.put.ramadan_bytes.Goals as goal

pub returns-then-c-eq1 : goal.returns-then-c-eq1
unfolding ramadan_bytes
returns-then-c-eq1 c =
    let choices = c.args.c in
    let f : SFits w32 choices.shift = search rules in
    let shift = c.shift_byte.ensures ∙ ap shift_byte (to_z-of_z f) in
    simp (eq-eqb choices.ramadan 1 c.if-c-eq1.true, c.byte_for.ensures, shift)

pub returns : goal.returns
unfolding ramadan_bytes
returns c = simp (ne_eqb c.args.c.ramadan 1 c.if-c-eq1.false)
