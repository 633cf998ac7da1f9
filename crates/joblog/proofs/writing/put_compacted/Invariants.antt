-- Invariant: the finished record is followed by the sent records of the pages from the first open one up to `page`.
use Rattle.prelude.proofs.Logic.{◌≡◌, ◌+◌, ◌-◌, ◌*◌, ◌≤◌, length}
use Rattle.text.specs.Text.{put_of}
use Rattle.joblog.specs.Records.{open_of}
use Rattle.joblog.proofs.writing.put_compacted.Given as goal

abbrev pub invariant-loop-page : goal.invariant-loop-page
invariant-loop-page l =
    (l.page ≤ l.fn.s.finished + (l.fn.s.sent - l.fn.s.finished)) × (l.at ≡ 5 + 5 * (l.page - l.fn.s.finished)) × (length l.buffer ≡ length l.initial.buffer)
    × (5 + 5 * (l.fn.s.sent - l.fn.s.finished) ≤ length l.initial.buffer)
    × (l.buffer ≡ put_of l.initial.buffer 5 (open_of l.fn.s.finished (l.page - l.fn.s.finished)))
