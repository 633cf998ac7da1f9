-- The numbers by which an order and an answer name the cases of each enum, in the words of document 01's table; and each number's case.
-- A number that names no case gives the last one, but an order with that number is refused before.
use Rattle.std.specs.Prelude.{ℕ, List, [], ◌∷◌, get_or}
use Rattle.models.specs.declared.rounding.Rounding.{Rounding}
use Rattle.models.specs.declared.rounding.Rounding.TheVariants.{Nearest, Up, None}
use Rattle.models.specs.declared.shafaq.Shafaq.{Shafaq}
use Rattle.models.specs.declared.shafaq.Shafaq.TheVariants.{General, Ahmer, Abyad}
use Rattle.models.specs.declared.madhab.Madhab.{Madhab}
use Rattle.models.specs.declared.madhab.Madhab.TheVariants.{Shafi, Hanafi}
use Rattle.models.specs.declared.high_altitude_rule.HighLatitudeRule.{HighLatitudeRule}
use Rattle.models.specs.declared.high_altitude_rule.HighLatitudeRule.TheVariants.{MiddleOfTheNight, SeventhOfTheNight, TwilightAngle}
use Rattle.models.specs.declared.method.Method.{Method}
use Rattle.models.specs.declared.method.Method.TheVariants.{MuslimWorldLeague, Egyptian, Karachi, UmmAlQura, Dubai}
use Rattle.models.specs.declared.method.Method.TheVariants.{MoonsightingCommittee, NorthAmerica, Kuwait, Qatar, Singapore, Tehran}
use Rattle.models.specs.declared.method.Method.TheVariants.{Turkey, Other}
use Rattle.models.specs.declared.rules.Midnight.{Midnight}
use Rattle.models.specs.declared.rules.Midnight.TheVariants.{Stops, Carries}
use Rattle.models.specs.declared.rules.Southern.{Southern}
use Rattle.models.specs.declared.rules.Southern.TheVariants.{Unreduced, StartsAgain}
use Rattle.models.specs.declared.prayer.Prayer.{Prayer}
use Rattle.models.specs.declared.prayer.Prayer.TheVariants.{Fajr, Sunrise, Dhuhr, Asr, Maghrib, Isha, Qiyam, FajrTomorrow}

-- "rounding 0 to 2 (Nearest, Up, None)"
abbrev pub rounding_number_of : Rounding → ℕ
rounding_number_of Nearest = 0
rounding_number_of Up = 1
rounding_number_of None = 2

unfoldable pub rounding_of : ℕ → Rounding
rounding_of n = get_or (Nearest ∷ Up ∷ None ∷ []) n None

-- "shafaq 0 to 2, in its enum's order"
abbrev pub shafaq_number_of : Shafaq → ℕ
shafaq_number_of General = 0
shafaq_number_of Ahmer = 1
shafaq_number_of Abyad = 2

unfoldable pub shafaq_of : ℕ → Shafaq
shafaq_of n = get_or (General ∷ Ahmer ∷ Abyad ∷ []) n Abyad

-- "madhab 1 or 2"
abbrev pub madhab_number_of : Madhab → ℕ
madhab_number_of Shafi = 1
madhab_number_of Hanafi = 2

unfoldable pub madhab_of : ℕ → Madhab
madhab_of n = get_or (Hanafi ∷ Shafi ∷ Hanafi ∷ []) n Hanafi

-- "high latitude rule 0 to 2, in its enum's order"
abbrev pub rule_number_of : HighLatitudeRule → ℕ
rule_number_of MiddleOfTheNight = 0
rule_number_of SeventhOfTheNight = 1
rule_number_of TwilightAngle = 2

unfoldable pub rule_of : ℕ → HighLatitudeRule
rule_of n = get_or (MiddleOfTheNight ∷ SeventhOfTheNight ∷ TwilightAngle ∷ []) n TwilightAngle

-- request 1, tag 15
abbrev pub midnight_number_of : Midnight → ℕ
midnight_number_of Stops = 0
midnight_number_of Carries = 1

unfoldable pub midnight_of : ℕ → Midnight
midnight_of n = get_or (Stops ∷ Carries ∷ []) n Carries

-- request 3, tag 17
abbrev pub southern_number_of : Southern → ℕ
southern_number_of Unreduced = 0
southern_number_of StartsAgain = 1

unfoldable pub southern_of : ℕ → Southern
southern_of n = get_or (Unreduced ∷ StartsAgain ∷ []) n StartsAgain

-- "method 0 to 12, in `Method`'s order"
abbrev pub method_number_of : Method → ℕ
method_number_of MuslimWorldLeague = 0
method_number_of Egyptian = 1
method_number_of Karachi = 2
method_number_of UmmAlQura = 3
method_number_of Dubai = 4
method_number_of MoonsightingCommittee = 5
method_number_of NorthAmerica = 6
method_number_of Kuwait = 7
method_number_of Qatar = 8
method_number_of Singapore = 9
method_number_of Tehran = 10
method_number_of Turkey = 11
method_number_of Other = 12

abbrev pub methods : List Method
methods =
    MuslimWorldLeague ∷ Egyptian ∷ Karachi ∷ UmmAlQura ∷ Dubai ∷ MoonsightingCommittee ∷ NorthAmerica ∷ Kuwait ∷ Qatar ∷ Singapore ∷
    Tehran ∷ Turkey ∷ Other ∷ []

unfoldable pub method_of : ℕ → Method
method_of n = get_or methods n Other

-- "the list Fajr, Sunrise, Dhuhr, Asr, Maghrib, Isha, Qiyam, FajrTomorrow", from 1; 0 is none in force
abbrev pub prayer_number_of : Prayer → ℕ
prayer_number_of Fajr = 1
prayer_number_of Sunrise = 2
prayer_number_of Dhuhr = 3
prayer_number_of Asr = 4
prayer_number_of Maghrib = 5
prayer_number_of Isha = 6
prayer_number_of Qiyam = 7
prayer_number_of FajrTomorrow = 8

abbrev pub prayers : List Prayer
prayers = FajrTomorrow ∷ Fajr ∷ Sunrise ∷ Dhuhr ∷ Asr ∷ Maghrib ∷ Isha ∷ Qiyam ∷ FajrTomorrow ∷ []

unfoldable pub prayer_of : ℕ → Prayer
prayer_of n = get_or prayers n FajrTomorrow
