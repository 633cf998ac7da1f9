-- This file need not be believed: what the functions of this crate pass to one another.
use Rattle.std.specs.Prelude.{ℕ, ◌+◌, ◌*◌, ◌≡◌, ◌&&◌, true, false, List, cond, eqb, leb, get_or, Option, Some, None}
use Rattle.joblog.specs.declared.records.Kind.{Kind}
use Rattle.joblog.specs.declared.records.Kind.TheVariants.{Sent, Done, Finished}
use Rattle.joblog.specs.declared.records.State.{State}
use Rattle.joblog.specs.declared.records.Record.{Record as Seen}
use Rattle.joblog.specs.Records.{Record, sent_tag, done_tag, finished_tag, state}
use Rattle.joblog.specs.Calls.{new_in_turn}

-- ---- a record's kind and its tag
abbrev pub tag_of : Kind → ℕ
tag_of Sent = sent_tag
tag_of Done = done_tag
tag_of Finished = finished_tag

abbrev pub kind_of : ℕ → Option Kind
kind_of tag = cond (eqb tag sent_tag) (Some Sent) (cond (eqb tag done_tag) (Some Done) (cond (eqb tag finished_tag) (Some Finished) None))

-- ---- a record of five bytes, and what the code makes of it
abbrev pub record_of : List ℕ → Record
record_of bytes = record {
  tag = get_or bytes 0 0;
  length = get_or bytes 1 0 * 256 + get_or bytes 2 0;
  page = get_or bytes 3 0 * 256 + get_or bytes 4 0;
}

abbrev pub seen : Record → Seen
seen r = record { kind = cond (eqb r.length 2) (kind_of r.tag) None; page = r.page }

-- ---- a new record that is in turn, as its kind and its page
abbrev pub NewInTurn : State → ℕ → ℕ → Option (Kind × ℕ) → Type 0
NewInTurn s tag page None = new_in_turn s tag page ≡ false
NewInTurn s tag page (Some r) = (new_in_turn s tag page ≡ true) × (tag ≡ tag_of r.0) × (page ≡ r.1)

-- ---- the state after a restart
abbrev pub RestartedTo : State → ℕ → Option State → Type 0
RestartedTo s count None = (leb s.finished count && leb count s.sent) ≡ false
RestartedTo s count (Some t) = ((leb s.finished count && leb count s.sent) ≡ true) × (t ≡ state count s.sent)
