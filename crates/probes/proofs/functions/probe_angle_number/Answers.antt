use Rattle.solar.proofs.SharedLaws.{angle-shared}
use Rattle.unit.specs.Unit.{angle_of}
use Rattle.probes.specs.Functions.{probe_sun_of}
use Rattle.probes.proofs.functions.probe_angle_number.Goals as goal

pub returns : goal.returns
returns c =
    let a = c.args in
    simp (c.angle_number.ensures, c.new.ensures, c.course.ensures)
    (angle-shared (probe_sun_of a.year a.month a.day a.latitude a.longitude) (angle_of a.angle) a.after_transit)
