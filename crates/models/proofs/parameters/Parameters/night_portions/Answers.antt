use Rattle.float64.proofs.Floats.{round, of_bits, dec}
use Rattle.models.specs.Settings.{portions_of}
use Rattle.models.proofs.parameters.Parameters.night_portions.Goals as goal

pub returns-in-MiddleOfTheNight : goal.returns-in-MiddleOfTheNight
unfolding portions_of dec round of_bits
returns-in-MiddleOfTheNight c = simp c.in-MiddleOfTheNight.is

pub returns-in-SeventhOfTheNight : goal.returns-in-SeventhOfTheNight
unfolding portions_of dec round of_bits
returns-in-SeventhOfTheNight c = simp c.in-SeventhOfTheNight.is

pub returns-in-TwilightAngle : goal.returns-in-TwilightAngle
unfolding portions_of dec round of_bits
returns-in-TwilightAngle c = simp c.in-TwilightAngle.is
