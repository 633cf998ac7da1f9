-- high_altitude_rule.rs: the rule that is recommended for a place.
use Rattle.std.specs.Prelude.{cond}
use Rattle.std.specs.Float.Ieee.{lt}
use Rattle.float64.specs.Ops.{dec}
use Rattle.unit.specs.declared.Coordinates.{Coordinates}
use Rattle.models.specs.declared.high_altitude_rule.HighLatitudeRule.{HighLatitudeRule}
use Rattle.models.specs.declared.high_altitude_rule.HighLatitudeRule.TheVariants.{MiddleOfTheNight, SeventhOfTheNight}

-- a seventh of the night above 48 degrees north, else the middle of the night
unfoldable pub recommended_of : Coordinates → HighLatitudeRule
unfolding dec
recommended_of c = cond (lt (dec 48 0) c.latitude) SeventhOfTheNight MiddleOfTheNight
