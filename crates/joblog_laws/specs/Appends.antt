-- Request 6: both buffers after a single call, and a cut at any byte of an append. Proved in proofs/AppendLaws.
use Rattle.std.specs.Prelude.{ℕ, ◌+◌, ◌-◌, ◌*◌, ◌≤◌, ◌<◌, ◌≡◌, true, false, cond, List, ◌++◌, ltb, eqb, length, take, drop, Ok}
use Rattle.refusals.specs.Refusals.{log_second_short}
use Rattle.text.specs.Text.{put_of}
use Rattle.joblog.specs.Records.{state, bytes_of, whole_of, log_reading_of, compacted_of}
use Rattle.joblog.specs.Calls.{LogCall, read_log_of, append_of, restart_of}
use Rattle.joblog_laws.specs.Run.{log_after, used_after, in_place}

-- ---- which bytes change
abbrev pub Unchanged : LogCall → List ℕ → List ℕ → Type 0
Unchanged c log second = (c.log ≡ log) × (c.second ≡ second)

-- a refused call changes no byte of either buffer
abbrev pub RefusedLogStays : Type 0
RefusedLogStays =
    (log : List ℕ) (used : ℕ) (second : List ℕ)
    → ((tag page : ℕ) → let c = append_of log used tag page second in eqb c.answer.number 0 ≡ false → Unchanged c log second)
    × ((count : ℕ) → let c = restart_of log used count second in eqb c.answer.number 0 ≡ false → Unchanged c log second)

-- "the first buffer stays as it was", when an append compacts and at every restart
abbrev pub FirstBufferStays : Type 0
FirstBufferStays =
    (log : List ℕ) (used : ℕ) (second : List ℕ)
    → ((tag page : ℕ) → in_place (append_of log used tag page second) ≡ false → (append_of log used tag page second).log ≡ log)
    × ((count : ℕ) → (restart_of log used count second).log ≡ log)

-- an append in the log's own buffer changes the five bytes after the last whole record and no others
abbrev pub FiveBytesChange : Type 0
FiveBytesChange =
    (log : List ℕ) (used tag page : ℕ) (second : List ℕ) → in_place (append_of log used tag page second) ≡ true
    → ((append_of log used tag page second).log ≡ take (whole_of used) log ++ bytes_of tag page ++ drop (whole_of used + 5) log)
    × ((append_of log used tag page second).second ≡ second)

-- ---- "A record cut at the end of the log is ignored and the next append begins in its place, so a cut at any byte of an append leaves the
-- log before or after that record."
-- k of the new record's bytes in the buffer
abbrev pub cut_at : List ℕ → ℕ → ℕ → ℕ → ℕ → List ℕ
cut_at log used tag page k = put_of log (whole_of used) (take k (bytes_of tag page))

-- reading then returns what it returned before, or what the append returns
abbrev pub CutAtAnyByte : Type 0
CutAtAnyByte =
    (log : List ℕ) (used tag page : ℕ) (second : List ℕ) (k : ℕ) → in_place (append_of log used tag page second) ≡ true → k ≤ 5
    → read_log_of (cut_at log used tag page k) (whole_of used + k)
    ≡ cond (ltb k 5) (read_log_of log used) (append_of log used tag page second).answer

-- the next append, of any record, returns what it would without the cut. If it is not refused, it leaves the same bytes too
abbrev pub NextTakesItsPlace : Type 0
NextTakesItsPlace =
    (log : List ℕ) (used tag page : ℕ) (second : List ℕ) (k : ℕ) → in_place (append_of log used tag page second) ≡ true → k < 5
    → (tag' page' : ℕ) (second' : List ℕ)
    → let next = append_of (cut_at log used tag page k) (whole_of used + k) tag' page' second' in
    let whole = append_of log used tag' page' second' in
    (next.answer ≡ whole.answer) × (eqb next.answer.number 0 ≡ true → next.log ≡ whole.log)

-- ---- a second buffer is never too short if it has room for one record and the open pages, and for an append one record more
abbrev pub LogRoomIsEnough : Type 0
LogRoomIsEnough =
    (log : List ℕ) (used : ℕ) (second : List ℕ)
    → ((tag page : ℕ) → 10 + 5 * ((read_log_of log used).sent - (read_log_of log used).finished) ≤ length second
    → eqb (append_of log used tag page second).answer.number log_second_short ≡ false)
    × ((count : ℕ) → 5 + 5 * ((read_log_of log used).sent - count) ≤ length second
    → eqb (restart_of log used count second).answer.number log_second_short ≡ false)

-- ---- "one finished record (page 0 if none is done), then the open pages": the compacted log says what the log said before
abbrev pub CompactionSaysTheSame : Type 0
CompactionSaysTheSame = (finished sent : ℕ) → finished ≤ sent → let s = state finished sent in log_reading_of (compacted_of s) ≡ Ok s

-- ---- after a call that is not refused, the log says what the call returns
abbrev pub SaysSo : LogCall → ℕ → Type 0
SaysSo c used =
    let now = read_log_of (log_after c) (used_after c used) in
    (now.number ≡ 0) × (now.finished ≡ c.answer.finished) × (now.sent ≡ c.answer.sent)

-- after an append, whether it compacts or not, and after a restart: "the log is compacted with the count as finished", with its open pages
abbrev pub LogSaysSo : Type 0
LogSaysSo =
    (log : List ℕ) (used : ℕ) (second : List ℕ)
    → ((tag page : ℕ) → eqb (append_of log used tag page second).answer.number 0 ≡ true → SaysSo (append_of log used tag page second) used)
    × ((count : ℕ) → let c = restart_of log used count second in
    eqb c.answer.number 0 ≡ true → SaysSo c used × (c.answer.finished ≡ count) × (c.answer.sent ≡ (read_log_of log used).sent))
