-- The difference of two times of the sun, a day apart, fits.
use Rattle.prelude.proofs.Logic.{lit≤, rules, w32, SFits}
use Rattle.integers.proofs.Integers.{constant, held_sum, held_difference, stored, promised}
use Rattle.schedule.specs.Twilight.{night_of}
use Rattle.schedule.proofs.Promises.{of_from}
use Rattle.schedule.proofs.twilight.night.Goals as goal

pub returns : goal.returns
unfolding night_of
returns c =
    let f : SFits w32 c.args.next.sunrise = search rules in
    let g : SFits w32 c.args.today.sunset = search rules in
    let next = held_sum (of_from _ f c.from.ensures) (constant 86400) in
    promised (stored (held_difference (stored next (lit≤ tt)) (of_from _ g c.from-2.ensures)) (lit≤ tt)) (lit≤ tt)
