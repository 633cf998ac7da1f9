-- Histories: "any calls each on the queue that the last one left", and what is summed from them.
use Rattle.std.specs.Prelude.{◌≡◌, Bool, true, false, cond, List, [], ◌∷◌, ℕ, ◌+◌, ◌≤◌, eqb, length}
use Rattle.queue.specs.Jobs.{Job, Event, admitted, refused, sent, nothing, QueueStep, waits, most_jobs, most_id, most_pages, join_of}
use Rattle.queue.specs.Jobs.{turn_of}

pub data Call : Type 0 where
  -- an id and its pages
  join : ℕ → ℕ → Call
  turn : Call

abbrev pub step_of : List Job → Call → QueueStep
step_of q (join id pages) = join_of q id pages
step_of q turn = turn_of q

-- the queue after the calls
abbrev pub after : List Job → List Call → List Job
after q [] = q
after q (c ∷ h) = after (step_of q c).queue h

-- what the calls did, in order
abbrev pub events : List Job → List Call → List Event
events q [] = []
events q (c ∷ h) = (step_of q c).event ∷ events (step_of q c).queue h

-- "counted from then": how many of the calls are turns
abbrev pub turns : List Call → ℕ
turns [] = 0
turns (join id pages ∷ h) = turns h
turns (turn ∷ h) = 1 + turns h

-- ---- pages, of all jobs or of those with some ids
abbrev pub Ids : Type 0
Ids = ℕ → Bool

abbrev pub every_id : Ids
every_id id = true

abbrev pub only_id : ℕ → Ids
only_id i id = eqb id i

abbrev pub when : Bool → ℕ → ℕ
when t n = cond t n 0

abbrev pub admitted_by : Ids → Event → ℕ
admitted_by of (admitted j) = when (of j.id) j.pages
admitted_by of (refused r) = 0
admitted_by of (sent j) = 0
admitted_by of nothing = 0

abbrev pub sent_by : Ids → Event → ℕ
sent_by of (admitted j) = 0
sent_by of (refused r) = 0
sent_by of (sent j) = when (of j.id) 1
sent_by of nothing = 0

abbrev pub pages_admitted : Ids → List Event → ℕ
pages_admitted of [] = 0
pages_admitted of (e ∷ es) = admitted_by of e + pages_admitted of es

abbrev pub pages_sent : Ids → List Event → ℕ
pages_sent of [] = 0
pages_sent of (e ∷ es) = sent_by of e + pages_sent of es

abbrev pub pages_left : Ids → List Job → ℕ
pages_left of [] = 0
pages_left of (j ∷ q) = when (of j.id) j.pages + pages_left of q

-- ---- a job's stay: its id waits before each of the calls
abbrev pub WaitsThrough : ℕ → List Job → List Call → Type 0
WaitsThrough id q [] = Unit
WaitsThrough id q (c ∷ h) = (waits id q ≡ true) × WaitsThrough id (step_of q c).queue h

-- ---- what is true of every queue that calls leave, if they begin with an empty one
abbrev pub NoIdTwice : List Job → Type 0
NoIdTwice [] = Unit
NoIdTwice (j ∷ q) = (waits j.id q ≡ false) × NoIdTwice q

abbrev pub AllProper : List Job → Type 0
AllProper [] = Unit
AllProper (j ∷ q) = (1 ≤ j.id) × (j.id ≤ most_id) × (1 ≤ j.pages) × (j.pages ≤ most_pages) × AllProper q

pub record Sound (q : List Job) : Type 0 where
  pub few : length q ≤ most_jobs
  pub once : NoIdTwice q
  pub proper : AllProper q
