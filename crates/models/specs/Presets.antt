-- method.rs: "each method brings its own angles, minutes and rounding" (document 01), one line for each method.
use Rattle.std.specs.Prelude.{ℕ, pos, neg_ℤ}
use Rattle.float64.specs.Ops.{dec}
use Rattle.models.specs.declared.adjustments.TimeAdjustment.{TimeAdjustment}
use Rattle.models.specs.declared.madhab.Madhab.{Madhab}
use Rattle.models.specs.declared.method.Method.{Method}
use Rattle.models.specs.declared.method.Method.TheVariants.{MuslimWorldLeague, Egyptian, Karachi, UmmAlQura, Dubai}
use Rattle.models.specs.declared.method.Method.TheVariants.{MoonsightingCommittee, NorthAmerica, Kuwait, Qatar, Singapore, Tehran}
use Rattle.models.specs.declared.method.Method.TheVariants.{Turkey, Other}
use Rattle.models.specs.declared.parameters.Parameters.{Parameters}
use Rattle.models.specs.declared.rounding.Rounding.{Rounding}
use Rattle.models.specs.declared.rounding.Rounding.TheVariants.{Nearest, Up}
use Rattle.models.specs.Builder.{chosen_of, numbered_of}
use Rattle.models.specs.Minutes.{six_minutes_of}
use Rattle.models.specs.Settings.{parameters_new_of}

-- a method's Fajr, Isha and Maghrib angles in tenths of a degree, its Isha interval, minutes and rounding; Parameters::new gives the rest
unfoldable pub preset : Method → ℕ → ℕ → ℕ → ℕ → TimeAdjustment → Rounding → Parameters
unfolding dec parameters_new_of
preset method fajr isha maghrib interval minutes rounding =
    let new = parameters_new_of (dec fajr 1) (dec isha 1) in
    let p = numbered_of new (dec maghrib 1) (dec isha 1) (pos interval) minutes in
    chosen_of p method p.madhab p.high_latitude_rule rounding p.shafaq

-- minutes of sunrise (subtracted), Dhuhr, Asr and Maghrib (added)
abbrev pub offset : ℕ → ℕ → ℕ → ℕ → TimeAdjustment
offset sunrise dhuhr asr maghrib = six_minutes_of (pos 0) (neg_ℤ (pos sunrise)) (pos dhuhr) (pos asr) (pos maghrib) (pos 0)

--                                                    Fajr Isha Maghrib interval  sunrise Dhuhr Asr Maghrib
unfoldable pub preset_of : Method → Parameters
unfolding preset
preset_of MuslimWorldLeague = preset MuslimWorldLeague 180 170 0 0 (offset 0 1 0 0) Nearest
preset_of Egyptian = preset Egyptian 195 175 0 0 (offset 0 1 0 0) Nearest
preset_of Karachi = preset Karachi 180 180 0 0 (offset 0 1 0 0) Nearest
preset_of UmmAlQura = preset UmmAlQura 185 0 0 90 (offset 0 0 0 0) Nearest
preset_of Dubai = preset Dubai 182 182 0 0 (offset 3 3 3 3) Nearest
preset_of MoonsightingCommittee = preset MoonsightingCommittee 180 180 0 0 (offset 0 5 0 3) Nearest
preset_of NorthAmerica = preset NorthAmerica 150 150 0 0 (offset 0 1 0 0) Nearest
preset_of Kuwait = preset Kuwait 180 175 0 0 (offset 0 0 0 0) Nearest
preset_of Qatar = preset Qatar 180 0 0 90 (offset 0 0 0 0) Nearest
preset_of Singapore = preset Singapore 200 180 0 0 (offset 0 1 0 0) Up
preset_of Tehran = preset Tehran 177 140 45 0 (offset 0 0 0 0) Nearest
preset_of Turkey = preset Turkey 180 170 0 0 (offset 7 5 4 7) Nearest
preset_of Other = preset Other 0 0 0 0 (offset 0 0 0 0) Nearest

-- a preset with another madhab
unfoldable pub with_of : Method → Madhab → Parameters
with_of method madhab = let p = preset_of method in chosen_of p p.method madhab p.high_latitude_rule p.rounding p.shafaq
