use Rattle.float64.proofs.Floats.{round, of_bits, dec}
use Rattle.models.specs.Recommended.{recommended_of}
use Rattle.models.proofs.high_altitude_rule.HighLatitudeRule.recommended.Goals as goal

pub returns-then-coordinates : goal.returns-then-coordinates
unfolding recommended_of dec round of_bits
returns-then-coordinates c = simp c.if-coordinates.true

pub returns-else-coordinates : goal.returns-else-coordinates
unfolding recommended_of dec round of_bits
returns-else-coordinates c = simp c.if-coordinates.false
