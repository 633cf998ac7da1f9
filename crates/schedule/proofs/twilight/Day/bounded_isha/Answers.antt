-- The earlier of the angle's time and the night bound, or a seventh of the night; each is small.
use Rattle.prelude.proofs.Logic.{◌≡◌, ap, ◌∙◌, lit≤, ℤ, rules, w32, w64, SFits}
use Rattle.integers.proofs.Integers.{read_back, held_sum, held_by, held_fits, stored, asked}
use Rattle.schedule.proofs.Schedule.{earlier_of, own_of, isha_bound_of, bounded_isha_of, both, of_near, of_from, held_seventh}
use Rattle.schedule.proofs.twilight.Day.bounded_isha.Goals as goal

pub overflow_add-by_night : goal.overflow_add-by_night
overflow_add-by_night c =
    let f : SFits w32 c.args.today.sunset = search rules in
    let k : read_back w64 c.seventh.result ≡ c.seventh.result = search rules in
    let seventh = held_by (k ∙ c.seventh.ensures) (held_seventh (of_near c.night-night.ensures (lit≤ tt))) in
    held_fits (held_sum (of_from _ f c.from.ensures) seventh) (lit≤ tt)

pub invariant_of-by_night : goal.invariant_of-by_night
invariant_of-by_night c =
    let f : SFits w32 c.args.today.sunset = search rules in
    let k : read_back w64 c.seventh.result ≡ c.seventh.result = search rules in
    let seventh = held_by (k ∙ c.seventh.ensures) (held_seventh (of_near c.night-night.ensures (lit≤ tt))) in
    record { near = asked (stored (held_sum (of_from _ f c.from.ensures) seventh) (lit≤ tt)) (lit≤ tt) }

pub returns : goal.returns
unfolding bounded_isha_of
returns c =
    let day = c.args.self in
    let f : SFits w32 c.args.today.sunset = search rules in
    let k : read_back w64 c.seventh.result ≡ c.seventh.result = search rules in
    let night = of_near c.night-night.ensures (lit≤ tt) in
    let by-night = stored (held_sum (of_from _ f c.from.ensures) (held_by (k ∙ c.seventh.ensures) (held_seventh night))) (lit≤ tt) in
    let bound = c.isha_bound-bound.ensures ∙ ap (isha_bound_of day.parameters day.season day.date c.args.today) night.is in
    let own = c.own.ensures
    ∙ both (λ (s y : ℤ). own_of day.parameters.method day.season.latitude s c.args.hour y) by-night.is bound in
    c.earlier.ensures ∙ both earlier_of own bound
