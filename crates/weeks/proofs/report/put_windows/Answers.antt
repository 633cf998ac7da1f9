use Rattle.prelude.proofs.Logic.{◌+◌, ◌<◌, arith, length}
use Rattle.weeks.specs.Kept.{minute_in_list}
use Rattle.weeks.proofs.ReportLaws.{no_lines, line-room, lined-next}
use Rattle.weeks.proofs.report.put_windows.Goals as goal

pub loop-first-init : goal.loop-first-init
loop-first-init c = no_lines _ _ _

pub put_window-end-requires : goal.put_window-end-requires
put_window-end-requires c =
    let l = c.loop-first in
    let more : l.first + 6 < length c.args.minutes.now = omega arith in
    rw c.window_from.ensures
    (line-room (minute_in_list c.args.minutes.now) (length c.args.minutes.now) c.requires.0 c.args.buffer.now c.requires.1 l.buffer l.first l.end
    l.invariant more)

pub loop-first-preserved : goal.loop-first-preserved
loop-first-preserved c =
    let l = c.loop-first in
    let more : l.first + 6 < length c.args.minutes.now = omega arith in
    let put = c.put_window-end in
    lined-next (minute_in_list c.args.minutes.now) (length c.args.minutes.now) c.requires.0 c.args.buffer.now c.requires.1 l.buffer l.first l.end
    l.invariant more c.window_from.result c.window_from.ensures put.new.buffer put.result put.auto.buffer
    (put.ensures.value, put.ensures.buffer_after)
