-- The seven fields follow one another: each put adds its own to those before.
use Rattle.order_numbers.specs.Values.{setting_fields, written}
use Rattle.order_numbers.proofs.PutLaws.{laid}
use Rattle.order_numbers.proofs.put.Line.settings.Goals as goal

pub returns-clause-line_after : goal.returns-clause-line_after
returns-clause-line_after c =
    simp (
      c.byte-5.ensures.line_after,
      c.byte-4.ensures.line_after,
      c.byte-3.ensures.line_after,
      c.byte-2.ensures.line_after,
      c.byte.ensures.line_after,
      c.float-2.ensures.line_after,
      c.float.ensures.line_after,
    ) (laid (written c.args.self.now) (setting_fields c.args.n))
