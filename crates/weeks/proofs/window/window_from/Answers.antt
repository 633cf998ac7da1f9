use Rattle.std.specs.Prelude.{Some}
use Rattle.prelude.proofs.Logic.{ap, ◌∙◌, rules, w64}
use Rattle.integers.proofs.Ranges.{read}
use Rattle.weeks.specs.{Kept.minute_in_list, Windows.seen_of}
use Rattle.weeks.proofs.ReportLaws.{first-refused, first-there, row-refused}
use Rattle.weeks.proofs.window.window_from.Goals as goal

pub returns-in_err-minutes : goal.returns-in_err-minutes
returns-in_err-minutes c =
    c.from_residual.ensures ∙ first-refused (minute_in_list c.args.minutes.now) c.args.first c.in_err-minutes.was

pub loop-row-init : goal.loop-row-init
loop-row-init c =
    let m = c.in_ok-minutes.field-0 in
    rw (c.new-window.ensures, read w64 m (search rules)) (first-there (minute_in_list c.args.minutes.now) c.args.first m c.in_ok-minutes.was)

pub returns-in_err-minutes-2 : goal.returns-in_err-minutes-2
returns-in_err-minutes-2 c =
    let l = c.loop-row in
    c.from_residual-in_err-minutes-2.ensures
    ∙ row-refused (minute_in_list c.args.minutes.now) c.args.first (Some l.window) l.row l.invariant c.loop-row-test.true
    (ap (seen_of (Some l.window) l.row) c.in_err-minutes-2.was)
