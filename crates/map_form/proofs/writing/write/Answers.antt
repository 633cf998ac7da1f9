-- Two cases: in range and out of range.
use Rattle.prelude.proofs.Logic.{sym, ◌∙◌}
use Rattle.map_form.proofs.Range.{wider}
use Rattle.map_form.proofs.Signs.{inside, outside}
use Rattle.map_form.proofs.writing.write.Goals as goal

pub nearest-n-requires : goal.nearest-n-requires
nearest-n-requires c =
    let limit = c.args.coordinate in
    wider c.args.x limit.most 180 limit.small (sym c.in_range.ensures ∙ c.if-in_range.true)

pub returns-then-in_range : goal.returns-then-in_range
returns-then-in_range c =
    let limit = c.args.coordinate in
    rw (c.parts.ensures, c.none.ensures)
    (inside limit.tag limit.most c.args.x c.nearest-n.result c.sign_of.result (sym c.in_range.ensures ∙ c.if-in_range.true)
    c.nearest-n.ensures.0 c.sign_of.ensures)

pub returns-else-in_range : goal.returns-else-in_range
returns-else-in_range c =
    let limit = c.args.coordinate in
    rw c.new.ensures (outside limit.tag limit.most c.args.x (sym c.in_range.ensures ∙ c.if-in_range.false))
