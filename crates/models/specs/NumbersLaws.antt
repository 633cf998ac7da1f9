-- This file need not be believed: each case's number names that case, with the proof. It is here because an impl of `Numbered` gives it as
-- its law, and code names only what is in specs/.
use Rattle.std.specs.Prelude.{◌≡◌, refl}
use Rattle.models.specs.declared.rounding.Rounding.{Rounding}
use Rattle.models.specs.declared.rounding.Rounding.TheVariants.{Nearest, Up, None}
use Rattle.models.specs.declared.shafaq.Shafaq.{Shafaq}
use Rattle.models.specs.declared.shafaq.Shafaq.TheVariants.{General, Ahmer, Abyad}
use Rattle.models.specs.declared.madhab.Madhab.{Madhab}
use Rattle.models.specs.declared.madhab.Madhab.TheVariants.{Shafi, Hanafi}
use Rattle.models.specs.declared.high_altitude_rule.HighLatitudeRule.{HighLatitudeRule}
use Rattle.models.specs.declared.high_altitude_rule.HighLatitudeRule.TheVariants.{MiddleOfTheNight, SeventhOfTheNight, TwilightAngle}
use Rattle.models.specs.declared.method.Method.{Method}
use Rattle.models.specs.declared.method.Method.TheVariants.{MuslimWorldLeague, Egyptian, Karachi, UmmAlQura, Dubai}
use Rattle.models.specs.declared.method.Method.TheVariants.{MoonsightingCommittee, NorthAmerica, Kuwait, Qatar, Singapore, Tehran}
use Rattle.models.specs.declared.method.Method.TheVariants.{Turkey, Other}
use Rattle.models.specs.declared.rules.Midnight.{Midnight}
use Rattle.models.specs.declared.rules.Midnight.TheVariants.{Stops, Carries}
use Rattle.models.specs.declared.rules.Southern.{Southern}
use Rattle.models.specs.declared.rules.Southern.TheVariants.{Unreduced, StartsAgain}
use Rattle.models.specs.declared.prayer.Prayer.{Prayer}
use Rattle.models.specs.declared.prayer.Prayer.TheVariants.{Fajr, Sunrise, Dhuhr, Asr, Maghrib, Isha, Qiyam, FajrTomorrow}
use Rattle.models.specs.Numbers.{rounding_number_of, rounding_of, shafaq_number_of, shafaq_of, madhab_number_of, madhab_of}
use Rattle.models.specs.Numbers.{rule_number_of, rule_of, midnight_number_of, midnight_of, southern_number_of, southern_of}
use Rattle.models.specs.Numbers.{method_number_of, method_of, prayer_number_of, prayer_of}

pub rounding_back : (c : Rounding) → rounding_of (rounding_number_of c) ≡ c
unfolding rounding_of
rounding_back Nearest = refl
rounding_back Up = refl
rounding_back None = refl

pub shafaq_back : (c : Shafaq) → shafaq_of (shafaq_number_of c) ≡ c
unfolding shafaq_of
shafaq_back General = refl
shafaq_back Ahmer = refl
shafaq_back Abyad = refl

pub madhab_back : (c : Madhab) → madhab_of (madhab_number_of c) ≡ c
unfolding madhab_of
madhab_back Shafi = refl
madhab_back Hanafi = refl

pub rule_back : (c : HighLatitudeRule) → rule_of (rule_number_of c) ≡ c
unfolding rule_of
rule_back MiddleOfTheNight = refl
rule_back SeventhOfTheNight = refl
rule_back TwilightAngle = refl

pub midnight_back : (c : Midnight) → midnight_of (midnight_number_of c) ≡ c
unfolding midnight_of
midnight_back Stops = refl
midnight_back Carries = refl

pub southern_back : (c : Southern) → southern_of (southern_number_of c) ≡ c
unfolding southern_of
southern_back Unreduced = refl
southern_back StartsAgain = refl

pub method_back : (c : Method) → method_of (method_number_of c) ≡ c
unfolding method_of
method_back MuslimWorldLeague = refl
method_back Egyptian = refl
method_back Karachi = refl
method_back UmmAlQura = refl
method_back Dubai = refl
method_back MoonsightingCommittee = refl
method_back NorthAmerica = refl
method_back Kuwait = refl
method_back Qatar = refl
method_back Singapore = refl
method_back Tehran = refl
method_back Turkey = refl
method_back Other = refl

pub prayer_back : (c : Prayer) → prayer_of (prayer_number_of c) ≡ c
unfolding prayer_of
prayer_back Fajr = refl
prayer_back Sunrise = refl
prayer_back Dhuhr = refl
prayer_back Asr = refl
prayer_back Maghrib = refl
prayer_back Isha = refl
prayer_back Qiyam = refl
prayer_back FajrTomorrow = refl
