-- The later of the angle's time and the night bound, or a seventh of the night; each is small.
use Rattle.prelude.proofs.Logic.{◌≡◌, ap, ◌∙◌, lit≤, ℤ, rules, w32, w64, SFits}
use Rattle.integers.proofs.Integers.{read_back, held_difference, held_by, held_fits, stored, asked}
use Rattle.schedule.proofs.Schedule.{later_of, own_of, fajr_bound_of, unadjusted_fajr_of, both, of_near, of_from, held_seventh}
use Rattle.schedule.proofs.twilight.Day.unadjusted_fajr.Goals as goal

pub overflow_sub-by_night : goal.overflow_sub-by_night
overflow_sub-by_night c =
    let f : SFits w32 c.args.today.sunrise = search rules in
    let k : read_back w64 c.seventh.result ≡ c.seventh.result = search rules in
    let seventh = held_by (k ∙ c.seventh.ensures) (held_seventh (of_near c.night-night.ensures (lit≤ tt))) in
    held_fits (held_difference (of_from _ f c.from.ensures) seventh) (lit≤ tt)

pub invariant_of-by_night : goal.invariant_of-by_night
invariant_of-by_night c =
    let f : SFits w32 c.args.today.sunrise = search rules in
    let k : read_back w64 c.seventh.result ≡ c.seventh.result = search rules in
    let seventh = held_by (k ∙ c.seventh.ensures) (held_seventh (of_near c.night-night.ensures (lit≤ tt))) in
    record { near = asked (stored (held_difference (of_from _ f c.from.ensures) seventh) (lit≤ tt)) (lit≤ tt) }

pub returns : goal.returns
unfolding unadjusted_fajr_of
returns c =
    let day = c.args.self in
    let f : SFits w32 c.args.today.sunrise = search rules in
    let k : read_back w64 c.seventh.result ≡ c.seventh.result = search rules in
    let night = of_near c.night-night.ensures (lit≤ tt) in
    let by-night = stored (held_difference (of_from _ f c.from.ensures) (held_by (k ∙ c.seventh.ensures) (held_seventh night))) (lit≤ tt) in
    let bound = c.fajr_bound-bound.ensures ∙ ap (fajr_bound_of day.parameters day.season day.date c.args.today) night.is in
    let own = c.own.ensures
    ∙ both (λ (s y : ℤ). own_of day.parameters.method day.season.latitude s c.args.hour y) by-night.is bound in
    c.later.ensures ∙ both later_of own bound
