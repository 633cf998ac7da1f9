-- The three fields follow one another.
use Rattle.prelude.proofs.Logic.{rules, w32, SFits}
use Rattle.order_numbers.specs.Values.{rule_fields, written}
use Rattle.order_numbers.proofs.PutLaws.{laid, bytes_told}
use Rattle.order_numbers.proofs.put.Line.rules.Goals as goal

pub returns-clause-line_after : goal.returns-clause-line_after
returns-clause-line_after c =
    let a = c.args in
    let f : SFits w32 a.c.clock = search rules in
    let told = bytes_told a.c.clock c.signed_bytes.result f c.signed_bytes.ensures in
    simp (c.byte-2.ensures.line_after, c.field.ensures.line_after, c.byte.ensures.line_after, told)
    (laid (written a.self.now) (rule_fields a.c))
