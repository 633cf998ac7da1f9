use Rattle.prelude.proofs.Logic.{rules, w32, SFits, to_z-of_z}
use Rattle.probes.specs.Days.{parameters_from}
use Rattle.probes.proofs.worked.parameters.Goals as goal

pub returns : goal.returns
unfolding parameters_from
returns c =
    let f0 : SFits w32 c.args.s.isha_interval = search rules in
    simp (
      to_z-of_z f0,
      c.parameters.ensures,
      c.of_number.ensures,
      c.of_number-2.ensures,
      c.of_number-3.ensures,
      c.of_number-4.ensures,
      c.of_number-5.ensures,
    )
