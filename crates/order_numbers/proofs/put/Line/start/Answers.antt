-- The three fields follow one another.
use Rattle.prelude.proofs.Logic.{arith}
use Rattle.order_numbers.specs.Values.{start_fields, written}
use Rattle.order_numbers.proofs.PutLaws.{laid, rows_long}
use Rattle.order_numbers.proofs.put.Line.start.Goals as goal

pub returns-clause-end : goal.returns-clause-end
returns-clause-end c =
    let few = rows_long c.args.rows in
    omega (arith, c.town.ensures.end, c.field.ensures.end, c.rows.ensures.end)

pub returns-clause-line_after : goal.returns-clause-line_after
returns-clause-line_after c =
    let a = c.args in
    simp (c.rows.ensures.line_after, c.field.ensures.line_after, c.town.ensures.line_after, c.date_bytes.ensures)
    (laid (written a.self.now) (start_fields a.date a.rows a.town.now))
