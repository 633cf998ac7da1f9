-- Both times start at rounded maghrib. The night's parts are small, so each sum fits an i64.
use Rattle.prelude.proofs.Logic.{◌≡◌, ap, ◌∙◌, lit≤, rules, w64}
use Rattle.integers.proofs.Integers.{summands, read_back, of_i64, held_difference, held_by, held_as, held_fits, stored, asked, promised}
use Rattle.models.specs.declared.rounding.Rounding.TheVariants.{Nearest}
use Rattle.whole_minutes.specs.Times.{rounded_of}
use Rattle.schedule.proofs.Schedule.{middle_of_the_night_of, qiyam_of, of_near, held_middle, held_last_third}
use Rattle.schedule.proofs.prayer_times.calculate_qiyam.Goals as goal

pub overflow_sub-night : goal.overflow_sub-night
overflow_sub-night c =
    held_fits (held_difference (of_i64 c.args.fajr c.ranges.fajr c.requires.1)
    (of_i64 c.args.maghrib c.ranges.maghrib c.requires.0)) (lit≤ tt)

pub into_the_night-requires : goal.into_the_night-requires
into_the_night-requires c =
    let m = of_i64 c.args.maghrib c.ranges.maghrib c.requires.0 in
    let night = stored (held_difference (of_i64 c.args.fajr c.ranges.fajr c.requires.1) m) (lit≤ tt) in
    let k : read_back w64 c.middle.result ≡ c.middle.result = search rules in
    (asked m (lit≤ tt), asked (held_by (k ∙ c.middle.ensures) (held_middle night (lit≤ tt))) (lit≤ tt))

pub into_the_night-requires-2 : goal.into_the_night-requires-2
into_the_night-requires-2 c =
    let m = of_i64 c.args.maghrib c.ranges.maghrib c.requires.0 in
    let night = stored (held_difference (of_i64 c.args.fajr c.ranges.fajr c.requires.1) m) (lit≤ tt) in
    let k : read_back w64 c.last_third.result ≡ c.last_third.result = search rules in
    (asked m (lit≤ tt), asked (held_by (k ∙ c.last_third.ensures) (held_last_third night (lit≤ tt))) (lit≤ tt))

pub returns : goal.returns
unfolding middle_of_the_night_of qiyam_of
returns c =
    let m = of_i64 c.args.maghrib c.ranges.maghrib c.requires.0 in
    let night = stored (held_difference (of_i64 c.args.fajr c.ranges.fajr c.requires.1) m) (lit≤ tt) in
    let k : read_back w64 c.middle.result ≡ c.middle.result = search rules in
    let j : read_back w64 c.last_third.result ≡ c.last_third.result = search rules in
    let half = held_by (k ∙ c.middle.ensures) (held_middle night (lit≤ tt)) in
    let third = held_by (j ∙ c.last_third.ensures) (held_last_third night (lit≤ tt)) in (
      promised (held_as (of_near c.into_the_night.ensures (lit≤ tt)) (ap (rounded_of Nearest) (summands m.is half.is)))
          (lit≤ tt),
      promised (held_as (of_near c.into_the_night-2.ensures (lit≤ tt)) (ap (rounded_of Nearest) (summands m.is third.is)))
          (lit≤ tt),
    )
