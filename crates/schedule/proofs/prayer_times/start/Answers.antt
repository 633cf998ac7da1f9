-- The day's number times 86,400 fits an i64 for every date.
use Rattle.prelude.proofs.Logic.{◌≡◌, ap, ◌∙◌, ◌^◌, ◌<◌, lit≤, ℤ, pos, ◌*ℤ◌, rules, w64}
use Rattle.integers.proofs.Integers.{read_back, Held, held_fits, stored, promised}
use Rattle.calendar.specs.Days.{day_number_of}
use Rattle.schedule.proofs.Schedule.{start_of, start_near}
use Rattle.schedule.proofs.prayer_times.start.Goals as goal
use Rattle.schedule.proofs.prayer_times.start.Goals.{After-day_number}

-- the product, as it is worked
product : (c : After-day_number)
    → Held (2 ^ 58) (read_back w64 c.day_number.result *ℤ pos 86400) (day_number_of c.args.date *ℤ pos 86400)
product c =
    let y : c.args.date.year < 2 ^ 32 = search rules in
    let k : read_back w64 c.day_number.result ≡ c.day_number.result = search rules in
    record { is = ap (λ (z : ℤ). z *ℤ pos 86400) (k ∙ c.day_number.ensures); near = start_near c.args.date y }

pub overflow_mul-result : goal.overflow_mul-result
overflow_mul-result c = held_fits (product c) (lit≤ tt)

pub returns : goal.returns
unfolding start_of
returns c = promised (stored (product c) (lit≤ tt)) (lit≤ tt)
