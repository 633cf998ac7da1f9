-- Only the first 41 bytes of a longer town are put.
use Rattle.prelude.proofs.Logic.{◌≡◌, sym, min, length, rules}
use Rattle.order_numbers.proofs.PutLaws.{take_cut}
use Rattle.order_numbers.proofs.put.Line.town.Goals as goal

pub returns-clause-line_after : goal.returns-clause-line_after
returns-clause-line_after c =
    let town = c.args.town.now in
    let cut : c.min.result ≡ min (length town) 41 = search rules in
    rw (sym (take_cut town), sym cut) c.field.ensures.line_after
