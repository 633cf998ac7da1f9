use Rattle.prelude.proofs.Logic.{◌≡◌, ◌∙◌, lit≤, rules, w64, SFits}
use Rattle.integers.proofs.Integers.{read_back, of_i64, held_by, promised}
use Rattle.whole_minutes.proofs.TimesLaws.{held_rounded, held_adjusted}
use Rattle.schedule.proofs.Promises.{of_near}
use Rattle.schedule.proofs.prayer_times.final_time.Goals as goal

pub returns : goal.returns
returns c =
    let f : SFits w64 c.args.time.count = search rules in
    let j : read_back w64 c.adjust_time.result ≡ c.adjust_time.result = search rules in
    let k : read_back w64 c.rounded_minute.result ≡ c.rounded_minute.result = search rules in
    let minutes = of_near c.time_adjustments.ensures (lit≤ tt) in
    let adjusted =
    held_by (j ∙ c.adjust_time.ensures) (held_adjusted (of_i64 c.args.time.count f c.args.time.near) minutes (lit≤ tt)) in
    promised (held_by (k ∙ c.rounded_minute.ensures) (held_rounded c.args.rounding adjusted (lit≤ tt))) (lit≤ tt)
