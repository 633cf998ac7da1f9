-- One comparison of sizes.
use Rattle.map_form.proofs.Range.{at_most_lem, whole_value}
use Rattle.map_form.proofs.writing.in_range.Goals as goal

pub returns : goal.returns
returns c =
    let limit = c.args.coordinate in
    rw c.abs.ensures (at_most_lem c.args.x _ limit.most (whole_value limit.most limit.small))
