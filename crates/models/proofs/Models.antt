-- The names that the proofs of this crate and of the crates above use, in one place. Nothing is added.
unfoldable pub use Rattle.models.specs.Builder.{set_isha_interval}
pub use Rattle.models.specs.Minutes.{no_minutes}
unfoldable pub use Rattle.models.specs.Numbers.{method_of, rounding_number_of, rounding_of, shafaq_number_of, shafaq_of, madhab_number_of}
unfoldable pub use Rattle.models.specs.Numbers.{madhab_of, rule_number_of, rule_of, midnight_number_of, midnight_of, southern_number_of}
unfoldable pub use Rattle.models.specs.Numbers.{southern_of, method_number_of, prayer_number_of, prayer_of}
pub use Rattle.models.specs.Numbers.{methods, prayers}
unfoldable pub use Rattle.models.specs.Presets.{preset, preset_of}
pub use Rattle.models.specs.Presets.{offset}
unfoldable pub use Rattle.models.specs.Settings.{minutes_for, time_adjustments_of, parameters_new_of}
pub use Rattle.models.specs.declared.high_altitude_rule.HighLatitudeRule.{HighLatitudeRule}
pub use Rattle.models.specs.declared.high_altitude_rule.HighLatitudeRule.TheVariants.{MiddleOfTheNight, SeventhOfTheNight}
pub use Rattle.models.specs.declared.high_altitude_rule.HighLatitudeRule.TheVariants.{TwilightAngle}
pub use Rattle.models.specs.declared.madhab.Madhab.{Madhab}
pub use Rattle.models.specs.declared.madhab.Madhab.TheVariants.{Shafi, Hanafi}
pub use Rattle.models.specs.declared.method.Method.{Method}
pub use Rattle.models.specs.declared.method.Method.TheVariants.{MuslimWorldLeague, Egyptian, Karachi, UmmAlQura, Dubai}
pub use Rattle.models.specs.declared.method.Method.TheVariants.{MoonsightingCommittee, NorthAmerica, Kuwait, Qatar, Singapore}
pub use Rattle.models.specs.declared.method.Method.TheVariants.{Tehran, Turkey, Other}
pub use Rattle.models.specs.declared.prayer.Prayer.{Prayer}
pub use Rattle.models.specs.declared.prayer.Prayer.TheVariants.{Fajr, Sunrise, Dhuhr, Asr, Maghrib, Isha, Qiyam, FajrTomorrow}
pub use Rattle.models.specs.declared.rounding.Rounding.{Rounding}
pub use Rattle.models.specs.declared.rounding.Rounding.TheVariants.{Nearest, Up, None}
pub use Rattle.models.specs.declared.rules.Midnight.{Midnight}
pub use Rattle.models.specs.declared.rules.Midnight.TheVariants.{Stops, Carries}
pub use Rattle.models.specs.declared.rules.Southern.{Southern}
pub use Rattle.models.specs.declared.rules.Southern.TheVariants.{Unreduced, StartsAgain}
pub use Rattle.models.specs.declared.shafaq.Shafaq.{Shafaq}
pub use Rattle.models.specs.declared.shafaq.Shafaq.TheVariants.{General, Ahmer, Abyad}
