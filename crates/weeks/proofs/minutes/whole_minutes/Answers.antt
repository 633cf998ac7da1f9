-- The minutes of the whole days, and those of the second of the day rounded down, are the seconds' minutes rounded down.
use Rattle.prelude.proofs.Logic.{◌≡◌, refl, rules, w64}
use Rattle.integers.proofs.Ranges.{read_back}
use Rattle.weeks.proofs.MinuteLaws.{whole-fits, minutes_fit_lem, minutes_read}
use Rattle.weeks.proofs.minutes.whole_minutes.Goals as goal

pub overflow_mul-result : goal.overflow_mul-result
overflow_mul-result c = whole-fits _ c.ranges.seconds _ _ (search rules) c.day_of.ensures refl

pub overflow_add-result : goal.overflow_add-result
overflow_add-result c = search (minutes_fit_lem, rules)

pub returns : goal.returns
returns c =
    let s = c in
    let k : read_back w64 c.day_of.result ≡ c.day_of.result = search rules in
    minutes_read s.args.seconds s.ranges.seconds _ _ k c.day_of.ensures c.second_of_day.ensures
