-- Request 10: "A queue of up to 16 jobs, each with an id .. and its pages left", in a host's two arrays, which may hold any numbers.
use Rattle.std.specs.Prelude.{cond, List, [], ◌∷◌, ◌++◌, map, ℕ, ◌-◌, ltb, length, replicate}
use Rattle.std.proofs.Math.Seq.{slice}
use Rattle.refusals.specs.Refusals.{no_refusal}
use Rattle.refusals.specs.declared.Refusal.{Refusal}
use Rattle.queue.specs.declared.Queue.{Queue}
use Rattle.queue.specs.declared.Joined.{Joined}
use Rattle.queue.specs.declared.Turned.{Turned}
use Rattle.queue.specs.Jobs.{Job, job, Event, admitted, refused, sent, nothing, QueueStep, most_jobs, join_of, turn_of}

-- ---- from the arrays to the list: at most the first 16 jobs count; no calls leave more
abbrev pub counted : ℕ → ℕ
counted jobs = cond (ltb jobs most_jobs) jobs most_jobs

abbrev pub paired : List ℕ → List ℕ → List Job
paired [] pages = []
paired (i ∷ ids) [] = []
paired (i ∷ ids) (p ∷ pages) = job i p ∷ paired ids pages

-- the jobs from place `from` to before `to`
abbrev pub jobs_in : Queue → ℕ → ℕ → List Job
jobs_in q from to = paired (slice from to q.ids) (slice from to q.pages)

abbrev pub jobs_of : Queue → List Job
jobs_of q = jobs_in q 0 (counted q.jobs)

-- ---- from the list to the arrays: zeros fill the rest of an array
abbrev pub padded : List ℕ → List ℕ
padded l = l ++ replicate (most_jobs - length l) 0

abbrev pub id_of : Job → ℕ
id_of j = j.id

abbrev pub pages_of : Job → ℕ
pages_of j = j.pages

abbrev pub queue_of : List Job → Queue
queue_of l = record { jobs = length l; ids = padded (map id_of l); pages = padded (map pages_of l) }

-- ---- what a step returns
abbrev pub refusal_in : Event → Refusal
refusal_in (admitted j) = no_refusal
refusal_in (refused r) = r
refusal_in (sent j) = no_refusal
refusal_in nothing = no_refusal

-- "A turn answers the job's id and its pages then left; one with no job sends nothing": id 0 and 0 pages
abbrev pub sent_in : Event → Job
sent_in (admitted j) = job 0 0
sent_in (refused r) = job 0 0
sent_in (sent j) = j
sent_in nothing = job 0 0

-- a refused job, and a turn with no job, leave every number of the queue as it was
abbrev pub held_after : Queue → Event → List Job → Queue
held_after q (admitted j) l = queue_of l
held_after q (refused r) l = q
held_after q (sent j) l = queue_of l
held_after q nothing l = q

abbrev pub joined_by : Queue → QueueStep → Joined
joined_by q s = record { refusal = refusal_in s.event; queue = held_after q s.event s.queue }

abbrev pub turned_by : Queue → QueueStep → Turned
turned_by q s = record { id = (sent_in s.event).id; pages = (sent_in s.event).pages; queue = held_after q s.event s.queue }

unfoldable pub joined_of : Queue → ℕ → ℕ → Joined
joined_of q id pages = joined_by q (join_of (jobs_of q) id pages)

unfoldable pub turned_of : Queue → Turned
turned_of q = turned_by q (turn_of (jobs_of q))
