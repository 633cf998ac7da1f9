-- Request 6, the calls: what each returns, and both lent buffers after it. A log is the first `used` bytes of its buffer. "The log refuses
-- with 12 if the second buffer is too short for what compaction writes, with 13 for a record out of turn, and with 14 for a count outside
-- those bounds; they are tried as 13, 14, 12, and the place is the record's page, or for 14, and for 12 at restart, the count."
use Rattle.std.specs.Prelude.{ℕ, ◌+◌, Bool, false, cond, ◌&&◌, List, ◌++◌, leb, length, take, Ok, Err}
use Rattle.refusals.specs.Refusals.{buffer_short, log_second_short, log_out_of_turn, log_count_outside}
use Rattle.text.specs.Text.{put_of}
use Rattle.joblog.specs.declared.calls.Log.{Log}
use Rattle.joblog.specs.declared.records.State.{State}
use Rattle.joblog.specs.Records.{LogReading, state, record_as, bytes_of, whole_of, in_turn, after_of, log_reading_of, compacted_of}

abbrev pub refused : ℕ → ℕ → Log
refused number place = record { number = number; place = place; moved = 0; finished = 0; sent = 0; used = 0 }

-- `finished` and `sent` after the call; `used` is the bytes of the whole records; `moved` is 1 if the log is now in the second buffer
abbrev pub answered : ℕ → State → ℕ → Log
answered moved s used = record { number = 0; place = 0; moved = moved; finished = s.finished; sent = s.sent; used = used }

-- ---- read
unfoldable pub read_answer : ℕ → LogReading → Log
read_answer used (Ok s) = answered 0 s (whole_of used)
read_answer used (Err e) = refused log_out_of_turn e.page

-- a `used` over the buffer's size is 9; this is checked first
unfoldable pub read_log_of : List ℕ → ℕ → Log
read_log_of log used = cond (leb used (length log)) (read_answer used (log_reading_of (take used log))) (refused buffer_short 0)

-- ---- a call that may write: what it returns, and the bytes of both buffers after it
pub record LogCall : Type 0 where
  pub answer : Log
  pub log : List ℕ
  pub second : List ℕ

abbrev pub refusing : ℕ → ℕ → List ℕ → List ℕ → LogCall
refusing number place log second = record { answer = refused number place; log = log; second = second }

-- "compacted into a second lent buffer ..; the first buffer stays as it was"; 12 if the second is too short for all of it: nothing is put
unfoldable pub compact_answer : State → List ℕ → ℕ → List ℕ → Log
compact_answer s text place second = cond (leb (length text) (length second)) (answered 1 s (length text)) (refused log_second_short place)

abbrev pub compacting_of : State → List ℕ → ℕ → List ℕ → List ℕ → LogCall
compacting_of s text place log second = record { answer = compact_answer s text place second; log = log; second = put_of second 0 text }

-- ---- append: it takes tag 1 or 2, and a page of at most two bytes
unfoldable pub new_in_turn : State → ℕ → ℕ → Bool
new_in_turn s tag page = leb page 65535 && in_turn false s (record_as tag page)

-- "A full log .. is compacted": a log is full if fewer than five bytes are left after its last whole record
unfoldable pub logged_of : State → List ℕ → ℕ → ℕ → ℕ → List ℕ → LogCall
logged_of s log used tag page second =
    let t = after_of s (record_as tag page) in
    cond (leb (whole_of used + 5) (length log))
    (record { answer = answered 0 t (whole_of used + 5); log = put_of log (whole_of used) (bytes_of tag page); second = second })
    (compacting_of t (compacted_of s ++ bytes_of tag page) page log second)

-- the log's own records are tried before the new one
unfoldable pub appended_of : LogReading → List ℕ → ℕ → ℕ → ℕ → List ℕ → LogCall
appended_of (Ok s) log used tag page second =
    cond (new_in_turn s tag page) (logged_of s log used tag page second) (refusing log_out_of_turn page log second)
appended_of (Err e) log used tag page second = refusing log_out_of_turn e.page log second

unfoldable pub append_of : List ℕ → ℕ → ℕ → ℕ → List ℕ → LogCall
append_of log used tag page second =
    cond (leb used (length log)) (appended_of (log_reading_of (take used log)) log used tag page second) (refusing buffer_short 0 log second)

-- ---- restart
-- "If that count lies between the log's finished and sent pages, ends included, the log is compacted with the count as finished"
unfoldable pub restarted_of : LogReading → List ℕ → ℕ → List ℕ → LogCall
restarted_of (Ok s) log count second =
    cond (leb s.finished count && leb count s.sent)
    (compacting_of (state count s.sent) (compacted_of (state count s.sent)) count log second)
    (refusing log_count_outside count log second)
restarted_of (Err e) log count second = refusing log_out_of_turn e.page log second

unfoldable pub restart_of : List ℕ → ℕ → ℕ → List ℕ → LogCall
restart_of log used count second =
    cond (leb used (length log)) (restarted_of (log_reading_of (take used log)) log count second) (refusing buffer_short 0 log second)
