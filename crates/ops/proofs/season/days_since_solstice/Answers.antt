-- Each arm is the definition's; the wrapping difference comes back to the plain one.
use Rattle.float64.proofs.Floats.{round, of_bits, dec}
use Rattle.ops.specs.Season.{days_since_solstice_of}
use Rattle.ops.proofs.Wrapped.{wrapped}
use Rattle.ops.proofs.season.days_since_solstice.Goals as goal

pub returns-else-latitude : goal.returns-else-latitude
unfolding days_since_solstice_of dec round of_bits
returns-else-latitude c =
    simp (c.if-latitude.false, c.days_in_year-days_in_year.ensures, c.southern_offset.ensures) (wrapped c.args.day_of_year c.args.year)
