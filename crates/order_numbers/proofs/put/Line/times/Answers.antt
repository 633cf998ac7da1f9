-- The four fields follow one another: each put adds its own to those before.
use Rattle.order_numbers.specs.Values.{time_fields, written}
use Rattle.order_numbers.proofs.PutLaws.{laid}
use Rattle.order_numbers.proofs.put.Line.times.Goals as goal

pub returns-clause-line_after : goal.returns-clause-line_after
returns-clause-line_after c =
    simp (
      c.field-2.ensures.line_after,
      c.float-2.ensures.line_after,
      c.float.ensures.line_after,
      c.field.ensures.line_after,
      c.word_bytes.ensures,
      c.minutes_bytes.ensures,
    ) (laid (written c.args.self.now) (time_fields c.args.n))
