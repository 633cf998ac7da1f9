-- What request 10 promises of every history of calls on an empty queue: first for the list of jobs, then for what a host keeps and is told.
-- Proved in proofs/: Invariant, Pages, Fairness, Stay, Host.
use Rattle.std.specs.Prelude.{◌≡◌, List, [], ◌∷◌, ◌++◌, ℕ, ◌+◌, ◌-◌, ◌<◌, ltb, length, get_or}
use Rattle.queue.specs.Jobs.{Job, job, admitted, sent, less, waits, join_of, turn_of}
use Rattle.queue.specs.History.{Call, after, events, turns, Ids, every_id, only_id, pages_admitted, pages_sent, pages_left, WaitsThrough}
use Rattle.queue.specs.History.{Sound}
use Rattle.queue.specs.Arrays.{queue_of, turned_of}
use Rattle.queue.specs.Host.{empty, held_after_all, told_all, total}

-- never more than 16 jobs, no id twice, each id from 1 to 65,535 with 1 to 16 pages left
abbrev pub QueuesAreSound : Type 0
QueuesAreSound = (h : List Call) → Sound (after [] h)

-- "pages sent plus pages left equal the pages ever admitted, sent and admitted summed from the history of calls", of all jobs and of each
abbrev pub PagesAreKept : Type 0
PagesAreKept = (of : Ids) (h : List Call) → pages_sent of (events [] h) + pages_left of (after [] h) ≡ pages_admitted of (events [] h)

-- "A job with k jobs ahead of it has its page sent at turn k + 1, counted from then, whoever joins meanwhile": h are the calls until then,
-- c any calls after them with k turns among them
abbrev pub TurnsAreFair : Type 0
TurnsAreFair =
    (h c : List Call) (ahead after_it : List Job) (j : Job) → after [] h ≡ ahead ++ (j ∷ after_it) → turns c ≡ length ahead
    → (turn_of (after (after [] h) c)).event ≡ sent (less j)

-- A job leaves when all pages that it was admitted with are sent, and not before: h are the calls until it joins, c any during its stay.
abbrev pub JobsLeaveWhenSent : Type 0
JobsLeaveWhenSent =
    (h c : List Call) (id pages : ℕ)
    → let s = join_of (after [] h) id pages in s.event ≡ admitted (job id pages) → WaitsThrough id s.queue c
    → (pages_sent (only_id id) (events s.queue c) + pages_left (only_id id) (after s.queue c) ≡ pages)
    × (waits id (after s.queue c) ≡ ltb (pages_sent (only_id id) (events s.queue c)) pages)

-- ---- of a host's own calls: the arrays have the jobs at their front, then zeros, and the results tell what was done
abbrev pub HostsHoldTheQueue : Type 0
HostsHoldTheQueue = (h : List Call) → (held_after_all empty h ≡ queue_of (after [] h)) × (told_all empty h ≡ events [] h)

abbrev pub HostsKeepPages : Type 0
HostsKeepPages =
    (h : List Call) → pages_sent every_id (told_all empty h) + total (held_after_all empty h).pages ≡ pages_admitted every_id (told_all empty h)

-- the job at place k of the arrays, after any calls with k turns among them
abbrev pub HostsTurnFairly : Type 0
HostsTurnFairly =
    (h c : List Call) (k : ℕ) → k < (held_after_all empty h).jobs → turns c ≡ k
    → let t = turned_of (held_after_all (held_after_all empty h) c) in
    (t.id ≡ get_or (held_after_all empty h).ids k 0) × (t.pages ≡ get_or (held_after_all empty h).pages k 0 - 1)
