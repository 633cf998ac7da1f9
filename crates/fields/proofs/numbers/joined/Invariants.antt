use Rattle.prelude.proofs.Logic.{◌≡◌, ◌<◌, ◌*◌, ◌^◌}
use Rattle.fields.specs.Numbers.{bytes_number_of}
use Rattle.fields.proofs.numbers.joined.Given as goal

abbrev pub invariant-loop-i : goal.invariant-loop-i
invariant-loop-i l = (l.x ≡ bytes_number_of l.i l.bytes) × (l.x < 2 ^ (8 * l.i))
