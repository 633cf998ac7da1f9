use Rattle.solar.proofs.SharedLaws.{numbers-shared}
use Rattle.probes.specs.Functions.{probe_sun_of}
use Rattle.probes.proofs.functions.probe_hour_numbers.Goals as goal

pub returns : goal.returns
returns c =
    let a = c.args in
    let sun = probe_sun_of a.year a.month a.day a.latitude a.longitude in
    simp (c.hour_numbers.ensures, c.course.ensures, numbers-shared sun)
