-- Request 6, the log: bytes, the records that they hold, and what the records say. "A job has a log of five-byte records .., each formed as
-- an order's field: tag 1 sent, 2 done, 3 finished through (compaction's first record only); length 2; page number."
use Rattle.std.specs.Prelude.{ℕ, zero, suc, ◌+◌, ◌-◌, ◌*◌, ◌/◌, ◌%◌, Bool, true, false, cond, ◌&&◌, List, [], ◌∷◌, ◌++◌, leb, eqb, Result, Ok, Err}
use Rattle.joblog.specs.declared.records.State.{State}
use Rattle.joblog.specs.declared.records.OutOfTurn.{OutOfTurn}

-- "tag 1 sent, 2 done, 3 finished through"
abbrev pub sent_tag : ℕ
sent_tag = 1

abbrev pub done_tag : ℕ
done_tag = 2

abbrev pub finished_tag : ℕ
finished_tag = 3

-- a State: pages 1 to `finished` are done, pages 1 to `sent` are sent, and the pages between are open
abbrev pub state : ℕ → ℕ → State
state finished sent = record { finished = finished; sent = sent }

-- a record's three numbers
pub record Record : Type 0 where
  pub tag : ℕ
  pub length : ℕ
  pub page : ℕ

-- a record as an append writes it
abbrev pub record_as : ℕ → ℕ → Record
record_as tag page = record { tag = tag; length = 2; page = page }

-- ---- a record's five bytes, numbers with the high byte first
unfoldable pub bytes_of : ℕ → ℕ → List ℕ
bytes_of tag page = tag ∷ 0 ∷ 2 ∷ page / 256 ∷ page % 256 ∷ []

-- a record begins every five bytes; "a record cut at the end of the log is ignored"
unfoldable pub records_of : List ℕ → List Record
records_of [] = []
records_of (a ∷ []) = []
records_of (a ∷ b ∷ []) = []
records_of (a ∷ b ∷ c ∷ []) = []
records_of (a ∷ b ∷ c ∷ d ∷ []) = []
records_of (a ∷ b ∷ c ∷ d ∷ e ∷ rest) = record { tag = a; length = b * 256 + c; page = d * 256 + e } ∷ records_of rest

-- the bytes of the whole records among the first `used`: where the next record begins
abbrev pub whole_of : ℕ → ℕ
whole_of used = used / 5 * 5

-- ---- what a log says
-- "Pages are sent in rising order from 1"; "a done names the lowest page sent and not done"; a finished record is in turn only as the log's
-- first one; "an unknown tag or another length counts as out of turn"
unfoldable pub in_turn : Bool → State → Record → Bool
in_turn first s r =
    eqb r.length 2
    && cond (eqb r.tag sent_tag) (eqb r.page (s.sent + 1))
    (cond (eqb r.tag done_tag) (eqb r.page (s.finished + 1) && leb r.page s.sent) (eqb r.tag finished_tag && first))

-- what a log says after one record more
unfoldable pub after_of : State → Record → State
after_of s r =
    cond (eqb r.tag sent_tag) (state s.finished r.page)
    (cond (eqb r.tag done_tag) (state r.page s.sent) (state r.page r.page))

-- what the records say, read in order, or the page of the first one that is out of turn
abbrev pub LogReading : Type 0
LogReading = Result State OutOfTurn

abbrev pub out_of_turn : ℕ → LogReading
out_of_turn page = Err (record { page = page })

unfoldable pub read_of : Bool → State → List Record → LogReading
read_of first s [] = Ok s
read_of first s (r ∷ rest) = cond (in_turn first s r) (read_of false (after_of s r) rest) (out_of_turn r.page)

abbrev pub log_reading_of : List ℕ → LogReading
log_reading_of log = read_of true (state 0 0) (records_of log)

-- ---- what compaction writes: the sent records of the n pages after `page`
unfoldable pub open_of : ℕ → ℕ → List ℕ
open_of page zero = []
open_of page (suc n) = bytes_of sent_tag (page + 1) ++ open_of (page + 1) n

-- "one finished record (page 0 if none is done), then the open pages"
unfoldable pub compacted_of : State → List ℕ
compacted_of s = bytes_of finished_tag s.finished ++ open_of s.finished (s.sent - s.finished)
