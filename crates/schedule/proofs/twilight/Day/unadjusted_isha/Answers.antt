-- An interval above 0 replaces the rule; else it is `bounded_isha`.
use Rattle.prelude.proofs.Logic.{◌∙◌, lit≤, rules, w32, SFits}
use Rattle.integers.proofs.Integers.{read, held_sum, held_product, stored, asked}
use Rattle.schedule.proofs.Schedule.{unadjusted_isha_of, of_from}
use Rattle.schedule.proofs.twilight.Day.unadjusted_isha.Goals as goal

pub invariant_of-result : goal.invariant_of-result
invariant_of-result c =
    let f : SFits w32 c.args.self.parameters.isha_interval = search rules in
    let g : SFits w32 c.args.today.sunset = search rules in
    let minutes = stored (held_product (of_from _ f c.from-then-interval-gt0.ensures) 60) (lit≤ tt) in
    record { near = asked (stored (held_sum (of_from _ g c.from.ensures) minutes) (lit≤ tt)) (lit≤ tt) }

pub returns-then-interval-gt0 : goal.returns-then-interval-gt0
unfolding unadjusted_isha_of
returns-then-interval-gt0 c =
    let f : SFits w32 c.args.self.parameters.isha_interval = search rules in
    let g : SFits w32 c.args.today.sunset = search rules in
    let minutes = stored (held_product (of_from _ f c.from-then-interval-gt0.ensures) 60) (lit≤ tt) in
    (stored (held_sum (of_from _ g c.from.ensures) minutes) (lit≤ tt)).is ∙ simp (rw (read w32 _ f) at c.if-interval-gt0.true)
