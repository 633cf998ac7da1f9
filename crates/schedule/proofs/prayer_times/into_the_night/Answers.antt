use Rattle.prelude.proofs.Logic.{◌≡◌, ◌∙◌, lit≤, rules, w64}
use Rattle.integers.proofs.Integers.{read_back, of_i64, held_sum, held_by, held_fits, stored, promised}
use Rattle.models.specs.declared.rounding.Rounding.TheVariants.{Nearest}
use Rattle.whole_minutes.proofs.TimesLaws.{held_rounded}
use Rattle.schedule.proofs.prayer_times.into_the_night.Goals as goal

pub overflow_add-maghrib : goal.overflow_add-maghrib
overflow_add-maghrib c =
    held_fits (held_sum (of_i64 c.args.maghrib c.ranges.maghrib c.requires.0)
    (of_i64 c.args.seconds c.ranges.seconds c.requires.1)) (lit≤ tt)

pub returns : goal.returns
returns c =
    let k : read_back w64 c.rounded_minute.result ≡ c.rounded_minute.result = search rules in
    let x =
    held_sum (of_i64 c.args.maghrib c.ranges.maghrib c.requires.0) (of_i64 c.args.seconds c.ranges.seconds c.requires.1) in
    promised (held_by (k ∙ c.rounded_minute.ensures) (held_rounded Nearest (stored x (lit≤ tt)) (lit≤ tt))) (lit≤ tt)
