use Rattle.prelude.proofs.Logic.{◌≡◌, drop}
use Rattle.fields.specs.Values.{given_by}
use Rattle.order.specs.Reading.{first_failing, required, is_given_of, missing_of}
use Rattle.order.proofs.reading.missing.Given as goal

abbrev pub invariant-loop-tag : goal.invariant-loop-tag
invariant-loop-tag l =
    let has = (given_by l.given).has in
    first_failing 4 (is_given_of has) (drop l.tag-index required) ≡ missing_of has
