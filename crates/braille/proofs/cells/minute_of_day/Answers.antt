use Rattle.prelude.proofs.Logic.{ap, ◌∙◌, arith, ℤ, pos, ◌*ℤ◌, rules, w32, w64}
use Rattle.integers.proofs.Integers.{floor_rem, floored, read_back, read, wide}
use Rattle.braille.proofs.Clock.{clock_fits_lem, clock-read, minute_within}
use Rattle.braille.proofs.cells.minute_of_day.Goals as goal

pub overflow_cast-clock : goal.overflow_cast-clock
overflow_cast-clock c = wide c.args.clock c.ranges.clock

pub overflow_mul-clock : goal.overflow_mul-clock
overflow_mul-clock c = clock_fits_lem c.args.clock c.ranges.clock

pub overflow_add-result : goal.overflow_add-result
overflow_add-result c =
    let t = c.before.before in
    let a = (floored (read_back w64 t.args.time) 86400 (omega arith)).below in
    let b = (floored (read_back w64 (read_back w64 (read_back w32 t.args.clock) *ℤ pos 60)) 86400 (omega arith)).below in
    record { fits = omega (arith, c.second_of_day.ensures, c.second_of_day-2.ensures) }

pub returns : goal.returns
returns c =
    let t = c.before.before in
    let a = c.second_of_day.ensures ∙ ap (λ (z : ℤ). floor_rem z 86400) (read w64 t.args.time t.ranges.time) in
    let b = c.second_of_day-2.ensures ∙ ap (λ (z : ℤ). floor_rem z 86400) (clock-read t.args.clock t.ranges.clock) in
    rw (a, b) (minute_within t.args.clock t.args.time)
