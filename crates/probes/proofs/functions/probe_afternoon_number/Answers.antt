use Rattle.solar.proofs.SharedLaws.{afternoon-shared}
use Rattle.probes.specs.Functions.{probe_sun_of}
use Rattle.probes.proofs.functions.probe_afternoon_number.Goals as goal

pub returns : goal.returns
returns c =
    let a = c.args in
    simp (c.afternoon_number.ensures, c.course.ensures)
    (afternoon-shared (probe_sun_of a.year a.month a.day a.latitude a.longitude) a.shadow_length)
