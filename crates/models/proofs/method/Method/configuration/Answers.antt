-- Each case by its definition. They are answers because an attribute that unfolds all of this is longer than a line may be.
use Rattle.prelude.proofs.Logic.{rules}
use Rattle.float64.proofs.Floats.{round, of_bits, dec}
use Rattle.models.proofs.Models.{set_isha_interval, preset_of, preset, parameters_new_of}
use Rattle.models.proofs.method.Method.configuration.Goals as goal

pub returns-in-MuslimWorldLeague : goal.returns-in-MuslimWorldLeague
unfolding preset_of preset dec round of_bits parameters_new_of set_isha_interval
returns-in-MuslimWorldLeague c = search rules

pub returns-in-Egyptian : goal.returns-in-Egyptian
unfolding preset_of preset dec round of_bits parameters_new_of set_isha_interval
returns-in-Egyptian c = search rules

pub returns-in-Karachi : goal.returns-in-Karachi
unfolding preset_of preset dec round of_bits parameters_new_of set_isha_interval
returns-in-Karachi c = search rules

pub returns-in-UmmAlQura : goal.returns-in-UmmAlQura
unfolding preset_of preset dec round of_bits parameters_new_of set_isha_interval
returns-in-UmmAlQura c = search rules

pub returns-in-Dubai : goal.returns-in-Dubai
unfolding preset_of preset dec round of_bits parameters_new_of set_isha_interval
returns-in-Dubai c = search rules

pub returns-in-MoonsightingCommittee : goal.returns-in-MoonsightingCommittee
unfolding preset_of preset dec round of_bits parameters_new_of set_isha_interval
returns-in-MoonsightingCommittee c = search rules

pub returns-in-NorthAmerica : goal.returns-in-NorthAmerica
unfolding preset_of preset dec round of_bits parameters_new_of set_isha_interval
returns-in-NorthAmerica c = search rules

pub returns-in-Kuwait : goal.returns-in-Kuwait
unfolding preset_of preset dec round of_bits parameters_new_of set_isha_interval
returns-in-Kuwait c = search rules

pub returns-in-Qatar : goal.returns-in-Qatar
unfolding preset_of preset dec round of_bits parameters_new_of set_isha_interval
returns-in-Qatar c = search rules

pub returns-in-Singapore : goal.returns-in-Singapore
unfolding preset_of preset dec round of_bits parameters_new_of set_isha_interval
returns-in-Singapore c = search rules

pub returns-in-Tehran : goal.returns-in-Tehran
unfolding preset_of preset dec round of_bits parameters_new_of set_isha_interval
returns-in-Tehran c = search rules

pub returns-in-Turkey : goal.returns-in-Turkey
unfolding preset_of preset dec round of_bits parameters_new_of set_isha_interval
returns-in-Turkey c = search rules

pub returns-in-Other : goal.returns-in-Other
unfolding preset_of preset dec round of_bits parameters_new_of set_isha_interval
returns-in-Other c = search rules
