-- Document 02, request 10: the print queue as a list of jobs, the front one first, and what a join and a turn do to it.
use Rattle.std.specs.Prelude.{Bool, false, cond, not, ◌&&◌, ◌||◌, List, [], ◌∷◌, ◌++◌, ℕ, ◌-◌, leb, ltb, eqb, length}
use Rattle.refusals.specs.Refusals.{refusal, queue_full, job_unfit}
use Rattle.refusals.specs.declared.Refusal.{Refusal}

-- "each with an id from 1 to 65,535 and its pages left"
pub record Job : Type 0 where
  pub id : ℕ
  pub pages : ℕ

abbrev pub job : ℕ → ℕ → Job
job id pages = record { id = id; pages = pages }

-- What a call does: it admits a job, refuses one, sends a page of a job (with its pages then left), or sends nothing.
pub data Event : Type 0 where
  admitted : Job → Event
  refused : Refusal → Event
  sent : Job → Event
  nothing : Event

pub record QueueStep : Type 0 where
  pub event : Event
  pub queue : List Job

-- "A queue of up to 16 jobs"
abbrev pub most_jobs : ℕ
most_jobs = 16

-- "New jobs join at the back"
abbrev pub at_back : List Job → Job → List Job
at_back q j = q ++ (j ∷ [])

-- ---- join: "an id still waiting"
abbrev pub waits : ℕ → List Job → Bool
waits id [] = false
waits id (j ∷ q) = eqb j.id id || waits id q

abbrev pub most_id : ℕ
most_id = 65535

abbrev pub most_pages : ℕ
most_pages = 16

-- "an id from 1 to 65,535", and not "pages outside 1 to 16"
abbrev pub proper : ℕ → ℕ → Bool
proper id pages = leb 1 id && leb id most_id && leb 1 pages && leb pages most_pages

abbrev pub admits : List Job → ℕ → ℕ → QueueStep
admits q id pages = record { event = admitted (job id pages); queue = at_back q (job id pages) }

-- "the id as place"; the queue stays as it is
abbrev pub refuses : List Job → ℕ → ℕ → QueueStep
refuses q number id = record { event = refused (refusal number id); queue = q }

-- "refused by 16 when 16 jobs wait, and by 17 for id 0, an id still waiting or pages outside 1 to 16, with 17 tried first"
unfoldable pub join_of : List Job → ℕ → ℕ → QueueStep
join_of q id pages =
    cond (proper id pages && not (waits id q)) (cond (ltb (length q) most_jobs) (admits q id pages) (refuses q queue_full id))
    (refuses q job_unfit id)

-- ---- turn
-- A job after one of its pages is sent. No calls leave a job with 0 pages; if a host passes one, its turn sends a page all the same.
abbrev pub less : Job → Job
less j = job j.id (j.pages - 1)

-- "That job goes to the back if it has pages left and leaves otherwise."
abbrev pub behind : List Job → Job → List Job
behind q j = cond (ltb 0 j.pages) (at_back q j) q

-- "A turn answers the job's id and its pages then left; one with no job sends nothing."
unfoldable pub turn_of : List Job → QueueStep
turn_of [] = record { event = nothing; queue = [] }
turn_of (j ∷ q) = record { event = sent (less j); queue = behind q (less j) }
