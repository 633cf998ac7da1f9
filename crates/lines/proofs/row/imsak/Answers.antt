-- Fajr less the minutes if an i64 holds it, else the earliest instant, as in `imsakOf`.
use Rattle.prelude.proofs.Logic.{◌^◌, ◌<◌, rules}
use Rattle.lines.proofs.Imsak as law
use Rattle.lines.proofs.row.imsak.Goals as goal

pub overflow_mul-seconds : goal.overflow_mul-seconds
overflow_mul-seconds c = let s : c.args.minutes < 2 ^ 32 = search rules in law.seconds_fit c.args.minutes s

pub overflow_add-seconds : goal.overflow_add-seconds
overflow_add-seconds c = let s : c.args.minutes < 2 ^ 32 = search rules in law.bound-fits c.args.minutes s

pub returns-then-fajr-seconds : goal.returns-then-fajr-seconds
returns-then-fajr-seconds c =
    let a = c.args in
    let s : a.minutes < 2 ^ 32 = search rules in
    law.none_left a.minutes s a.fajr c.ranges.fajr c.if-fajr-seconds.true

pub overflow_sub-result : goal.overflow_sub-result
overflow_sub-result c =
    let a = c.args in
    let s : a.minutes < 2 ^ 32 = search rules in
    law.left-fits a.minutes s a.fajr c.ranges.fajr c.if-fajr-seconds.false

pub returns : goal.returns
returns c =
    let a = c.args in
    let s : a.minutes < 2 ^ 32 = search rules in
    law.left a.minutes s a.fajr c.ranges.fajr c.if-fajr-seconds.false
