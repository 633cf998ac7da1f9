-- Request 6, a run: a host with its log, and an embosser. What the calls write and return are crates/joblog's definitions.
--
-- What the request's promise needs beside the log. Each point is a choice, to compare with the request. `HostConduct` has what the host may
-- record and send, what it sends again and what the embosser drops. The steps have the other points:
--   the link    pages reach the embosser in the order in which they go out. Pages are lost only from the end, and then no page gets
--               through until a restart (the step `crash`, also if only the link or the embosser failed).
--   embosser    it finishes its pages in the order in which they reached it, also while the host is down. No crash undoes a finished page.
--   a count     it is true if it is the number of pages finished, and the embosser drops its other pages when it reports it: the open pages
--               go out again, and one still in its tray would be finished twice (`keeps_its_tray` in proofs/WrongConduct).
--   the host    after any crash it restarts before it appends or sends: `up` says so. It sends no page while it is in an append.
--   a done      is recorded only if the host has heard the page's acknowledgement, or a later page's: pages are finished in order. The
--               embosser acknowledges a page when it has finished it. The acknowledgement may be lost on its way, or come late, also after
--               a crash and a restart (the steps `hears` and `lost`).
--   the buffer  an append's bytes become lasting one by one, from the first on. `used` never counts a byte that is not lasting. The move to
--               the second buffer is lasting at once, when the call has returned and before a page goes out.
use Rattle.std.specs.Prelude.{ℕ, ◌+◌, Bool, true, false, cond, ◌&&◌, ◌||◌, List, [], ◌∷◌, ◌++◌, leb, ltb, eqb, length, take, drop}
use Rattle.text.specs.Text.{put_of}
use Rattle.joblog.specs.Records.{done_tag, bytes_of, whole_of}
use Rattle.joblog.specs.Calls.{LogCall, read_log_of, append_of, restart_of}

-- ---- what there is at a moment
-- whether the host is in an append: the record's tag and page, what the call returns and leaves, and how many of its bytes are lasting
pub data Writing : Type 0 where
  idle : Writing
  within : ℕ → ℕ → LogCall → ℕ → Writing

pub record Host : Type 0 where
  -- lasting: the buffer that is the log now, and how many of its bytes are the log
  pub log : List ℕ
  pub used : ℕ
  -- its memory: whether it runs and has restarted since the last crash, the last page that went out, the append that it is in, and the
  -- pages whose acknowledgement it has heard
  pub up : Bool
  pub out : ℕ
  pub writing : Writing
  pub heard : List ℕ

pub record Embosser : Type 0 where
  -- the pages that reached it and are not finished, and those that it has finished, the oldest first
  pub tray : List ℕ
  pub finished : List ℕ
  -- the acknowledgements on their way to the host, the oldest first
  pub coming : List ℕ

pub record World : Type 0 where
  pub host : Host
  pub embosser : Embosser

abbrev pub world : Host → Embosser → World
world host embosser = record { host = host; embosser = embosser }

-- a job begins: any buffer, and an empty log in it
abbrev pub begun : List ℕ → World
begun buffer =
    world (record { log = buffer; used = 0; up = true; out = 0; writing = idle; heard = [] })
    (record { tray = []; finished = []; coming = [] })

pub data Step : Type 0 where
  -- the host calls append with a record, its tag and page, and lends a second buffer
  begins : ℕ → ℕ → List ℕ → Step
  -- one more byte of the record is lasting in the log's buffer
  byte : Step
  -- the record is complete and the call returns: the new `used`, or the move to the second buffer, is lasting
  completes : Step
  -- the page after the last one goes out, and reaches the embosser
  goes : Step
  -- the embosser finishes the first page of its tray, and acknowledges it
  finishes : Step
  -- the first acknowledgement on its way reaches the host, or it is lost
  hears : Step
  lost : Step
  -- host, link or embosser fail. The first number is how many pages, the oldest ones, are left in the tray. If the host was in an append,
  -- the second number is `used` after the crash, if so many bytes can be lasting
  crash : ℕ → ℕ → Step
  -- the embosser reports its count, and the host restarts with it and lends this second buffer
  restart : List ℕ → Step

-- ---- what host and embosser keep to. What the request asks for is below; under the others, in proofs/WrongConduct, the promise fails.
pub record HostConduct : Type 0 where
  -- given the pages whose acknowledgements were heard, and a page: may the host record it as done?
  pub told : List ℕ → ℕ → Bool
  -- given a page, and the pages that the log says are sent: may it go out?
  pub ready : ℕ → ℕ → Bool
  -- given the log's finished pages and the embosser's count: after which page do the open pages go out again?
  pub resume : ℕ → ℕ → ℕ
  -- what is left of the embosser's tray when it has reported its count
  pub kept : List ℕ → List ℕ

-- an acknowledgement of a page tells that it and all earlier pages are finished; theirs may be lost
unfoldable pub acknowledged : List ℕ → ℕ → Bool
acknowledged [] page = false
acknowledged (p ∷ heard) page = leb page p || acknowledged heard page

-- "a page goes out only after its sent record is whole"; "the log is compacted with the count as finished, its open pages go out again"
abbrev pub as_requested : HostConduct
as_requested = record { told = acknowledged; ready = leb; resume = λ done count. count; kept = λ tray. [] }

-- ---- steps. A step that is not allowed at that moment changes nothing.
-- "the first buffer stays as it was and is the log until the call returns"
abbrev pub log_after : LogCall → List ℕ
log_after c = cond (eqb c.answer.moved 1) c.second c.log

abbrev pub used_after : LogCall → ℕ → ℕ
used_after c used = cond (eqb c.answer.number 0) c.answer.used used

-- an append that writes into the log's own buffer
abbrev pub in_place : LogCall → Bool
in_place c = eqb c.answer.number 0 && eqb c.answer.moved 0

-- a host with another log and append; one that has sent a page; one that has heard acknowledgements
abbrev pub writes : Host → List ℕ → ℕ → Writing → Host
writes h log used writing = record { log = log; used = used; up = h.up; out = h.out; writing = writing; heard = h.heard }

abbrev pub sends : Host → ℕ → Host
sends h page = record { log = h.log; used = h.used; up = h.up; out = page; writing = h.writing; heard = h.heard }

abbrev pub has_heard : Host → List ℕ → Host
has_heard h heard = record { log = h.log; used = h.used; up = h.up; out = h.out; writing = h.writing; heard = heard }

-- an embosser with another tray; one with other acknowledgements on their way
abbrev pub holds : Embosser → List ℕ → Embosser
holds e tray = record { tray = tray; finished = e.finished; coming = e.coming }

abbrev pub awaits : Embosser → List ℕ → Embosser
awaits e coming = record { tray = e.tray; finished = e.finished; coming = coming }

-- ---- an append
abbrev pub may_append : HostConduct → Host → ℕ → ℕ → Bool
may_append conduct h tag page = h.up && cond (eqb tag done_tag) (conduct.told h.heard page) true

unfoldable pub beginning : HostConduct → Host → Writing → ℕ → ℕ → List ℕ → Host
beginning conduct h (within t p c k) tag page second = h
beginning conduct h idle tag page second =
    cond (may_append conduct h tag page) (writes h h.log h.used (within tag page (append_of h.log h.used tag page second) 0)) h

-- the next of the record's five bytes, after the last whole record and the k bytes that are written
abbrev pub with_byte : List ℕ → ℕ → ℕ → ℕ → ℕ → List ℕ
with_byte log used tag page k = put_of log (whole_of used + k) (take 1 (drop k (bytes_of tag page)))

unfoldable pub writing_byte : Host → Writing → Host
writing_byte h idle = h
writing_byte h (within tag page c k) =
    cond (in_place c && ltb k 5) (writes h (with_byte h.log h.used tag page k) h.used (within tag page c (k + 1))) h

unfoldable pub completing : Host → Writing → Host
completing h idle = h
completing h (within tag page c k) = cond (in_place c && ltb k 5) h (writes h (log_after c) (used_after c h.used) idle)

-- ---- pages and acknowledgements
unfoldable pub is_idle : Writing → Bool
is_idle idle = true
is_idle (within tag page c k) = false

-- "a page goes out only after its sent record is whole"
abbrev pub may_send : HostConduct → Host → Bool
may_send conduct h = h.up && is_idle h.writing && conduct.ready (h.out + 1) (read_log_of h.log h.used).sent

unfoldable pub finishing : Embosser → List ℕ → Embosser
finishing e [] = e
finishing e (page ∷ rest) = record { tray = rest; finished = e.finished ++ (page ∷ []); coming = e.coming ++ (page ∷ []) }

-- the first acknowledgement on its way: `heard` gives the pages that the host has heard of after it; these stay the same if it is lost
unfoldable pub arriving : World → (List ℕ → ℕ → List ℕ) → List ℕ → World
arriving w heard [] = w
arriving w heard (page ∷ rest) = world (has_heard w.host (heard w.host.heard page)) (awaits w.embosser rest)

-- ---- a crash and a restart: what `used` may be after a crash in an append, if k of the record's bytes are lasting
abbrev pub may_be_used : ℕ → ℕ → ℕ → Bool
may_be_used used k u = leb (whole_of used) u && (leb u used || leb u (whole_of used + k))

unfoldable pub crash_used : ℕ → Writing → ℕ → ℕ
crash_used used idle u = used
crash_used used (within tag page c k) u = cond (in_place c && may_be_used used k u) u used

-- only the host's log is left
abbrev pub crashed : Host → ℕ → Host
crashed h u = record { log = h.log; used = crash_used h.used h.writing u; up = false; out = 0; writing = idle; heard = [] }

abbrev pub restarting : HostConduct → Host → ℕ → List ℕ → Host
restarting conduct h count second =
    let c = restart_of h.log h.used count second in
    record {
      log = log_after c;
      used = used_after c h.used;
      up = eqb c.answer.number 0;
      out = conduct.resume (read_log_of h.log h.used).finished count;
      writing = idle;
      heard = h.heard;
    }

-- ---- a step, and a run
unfoldable pub next : HostConduct → World → Step → World
next conduct w (begins tag page second) = world (beginning conduct w.host w.host.writing tag page second) w.embosser
next conduct w byte = world (writing_byte w.host w.host.writing) w.embosser
next conduct w completes = world (completing w.host w.host.writing) w.embosser
next conduct w goes =
    let page = w.host.out + 1 in
    cond (may_send conduct w.host) (world (sends w.host page) (holds w.embosser (w.embosser.tray ++ (page ∷ [])))) w
next conduct w finishes = world w.host (finishing w.embosser w.embosser.tray)
next conduct w hears = arriving w (λ heard page. page ∷ heard) w.embosser.coming
next conduct w lost = arriving w (λ heard page. heard) w.embosser.coming
next conduct w (crash left u) = world (crashed w.host u) (holds w.embosser (take left w.embosser.tray))
next conduct w (restart second) =
    world (restarting conduct w.host (length w.embosser.finished) second) (holds w.embosser (conduct.kept w.embosser.tray))

unfoldable pub run : HostConduct → World → List Step → World
run conduct w [] = w
run conduct w (step ∷ steps) = run conduct (next conduct w step) steps
