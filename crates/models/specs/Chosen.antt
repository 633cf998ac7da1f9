-- The rules of an order that chooses none of its own, and what the season depends on besides the date.
use Rattle.unit.specs.declared.Coordinates.{Coordinates}
use Rattle.models.specs.declared.parameters.Parameters.{Parameters}
use Rattle.models.specs.declared.rules.Midnight.TheVariants.{Stops}
use Rattle.models.specs.declared.rules.Southern.TheVariants.{Unreduced}
use Rattle.models.specs.declared.rules.Rules.{Rules}
use Rattle.models.specs.declared.rules.Season.{Season}
use Rattle.models.specs.declared.setting.Setting.{Setting}

abbrev pub source_rules : Rules
source_rules = record { midnight = Stops; southern = Unreduced }

-- what every day of an order shares
abbrev pub setting_of : Coordinates → Parameters → Rules → Setting
setting_of place p rules = record { coordinates = place; parameters = p; rules = rules }

-- the latitude of the place, and the rule for the south
abbrev pub season_of : Setting → Season
season_of s = record { latitude = s.coordinates.latitude; southern = s.rules.southern }
