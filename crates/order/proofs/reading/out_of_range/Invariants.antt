use Rattle.prelude.proofs.Logic.{◌≡◌}
use Rattle.fields.specs.Values.{given_by}
use Rattle.order.proofs.OutOfRange.{passes, from_tag}
use Rattle.order.proofs.reading.out_of_range.Given as goal

abbrev pub invariant-loop-tag : goal.invariant-loop-tag
invariant-loop-tag l =
    let pass = passes (given_by l.given) l.date l.ramadan in
    from_tag pass l.tag ≡ from_tag pass 1
