use Rattle.float64.proofs.Floats.{round, of_bits, dec}
use Rattle.unit.specs.Unit.{quadrant_shifted_of}
use Rattle.unit.proofs.Angle.quadrant_shifted.Goals as goal
use Rattle.unit.proofs.Angle.quadrant_shifted.Goals.{else-degrees-via-then-degrees+else-degrees-2, else-degrees-via-else-degrees}

pub returns-then-degrees-2 : goal.returns-then-degrees-2
unfolding quadrant_shifted_of dec round of_bits
returns-then-degrees-2 c = simp (c.if-degrees-2.true, c.if-degrees.true)

pub returns-else-degrees : goal.returns-else-degrees
unfolding quadrant_shifted_of dec round of_bits
returns-else-degrees c =
    let e = c.round.ensures in
    elim c.else-degrees.branch [
      | else-degrees-via-then-degrees+else-degrees-2 w ↦ simp (e, w.if-degrees.true, w.if-degrees-2.false)
      | else-degrees-via-else-degrees w ↦ simp (e, w.if-degrees.false)
    ]
