use Rattle.prelude.proofs.Logic.{◌≡◌, refl, arith, length, rules}
use Rattle.order_numbers.specs.Bytes.{field_bytes}
use Rattle.order_numbers.proofs.PutLaws.{field_taken}
use Rattle.order_numbers.proofs.put.Line.field.Goals as goal

pub returns-clause-line_after : goal.returns-clause-line_after
unfolding field_bytes
returns-clause-line_after c =
    let a = c.args in
    let room = c.requires.0 in
    let long : length a.self.now.bytes ≡ 158 = search rules in
    field_taken a.self.now.bytes c.put.new.buffer c.put-2.new.buffer a.self.now.end a.tag _ a.value.now refl refl
    c.put.ensures c.put-2.ensures (omega arith)
