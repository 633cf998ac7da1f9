-- What the code returns is the definition's value, in each case that its tests find. Assumes nothing.
use Rattle.prelude.proofs.Logic.{◌≡◌, refl, sym, ◌∙◌, true, false, List, ◌∷◌, ℕ, ◌-◌, ◌≤◌, ◌<◌, arith, length, get_or, lt-ltb, le-ltb}
use Rattle.queue.specs.declared.{Queue.Queue, Joined.Joined, Turned.Turned}
use Rattle.queue.specs.Jobs.{Job, job, Event, admitted, refused, sent, nothing, QueueStep, most_jobs, waits, proper, admits, join_of, turn_of}
use Rattle.queue.specs.Arrays.{counted, jobs_in, jobs_of, queue_of, refusal_in, held_after, joined_of, turned_of}
use Rattle.std.proofs.Common.{Ok, Err}
use Rattle.queue.specs.Parts.{with_last, verdict_in}
use Rattle.refusals.specs.declared.Refusal.{Refusal}
use Rattle.refusals.specs.Refusals.{refusal, no_refusal, queue_full, job_unfit}
use Rattle.queue.proofs.Steps.{join_cases}
use Rattle.queue.proofs.Abstraction.{Whole, counted_most, jobs-length, jobs-first, last_jobs}

-- ---- joins to a list of jobs
admitted_when : (l : List Job) (id pages : ℕ) → Ok tt ≡ verdict_in (join_of l id pages).event
    → (length l < most_jobs) × (join_of l id pages ≡ admits l id pages)
admitted_when l id pages =
    join_cases (λ (s : QueueStep). Ok tt ≡ verdict_in s.event → (length l < most_jobs) × (s ≡ admits l id pages)) l id pages
    (λ n o h. cc) (λ r v k h. (k, refl))

kept_when : (q : Queue) (e : Event) (l : List Job) (r : Refusal) → Err r ≡ verdict_in e
    → ◌≡◌ {A = Joined} (record { refusal = r; queue = q }) (record { refusal = refusal_in e; queue = held_after q e l })
kept_when q (admitted j) l r h = cc
kept_when q (refused x) l r h = let e : r ≡ x = cc in rw e
kept_when q (sent j) l r h = cc
kept_when q nothing l r h = cc

pub join_refused : (q : Queue) (id pages : ℕ) (r : Refusal) → Err r ≡ verdict_in (join_of (jobs_of q) id pages).event
    → ◌≡◌ {A = Joined} (record { refusal = r; queue = q }) (joined_of q id pages)
unfolding joined_of
join_refused q id pages r h = kept_when q (join_of (jobs_of q) id pages).event (join_of (jobs_of q) id pages).queue r h

pub join_admitted : (q : Queue) (n : ℕ) → n ≡ counted q.jobs → (id pages : ℕ) → Ok tt ≡ verdict_in (join_of (jobs_of q) id pages).event
    → ◌≡◌ {A = Joined} (record { refusal = no_refusal; queue = with_last (queue_of (jobs_in q 0 n)) id pages }) (joined_of q id pages)
unfolding joined_of
join_admitted q n e id pages free =
    let a = admitted_when (jobs_of q) id pages free in
    rw (e, last_jobs (jobs_of q) id pages a.0, a.1)

-- ---- whether a job may join, by what the tests find
module _ (q : Queue) (w : Whole q) (id pages : ℕ) (p : proper id pages ≡ true) (a : waits id (jobs_of q) ≡ false) where
  jobs-counted : length (jobs_of q) ≡ counted q.jobs
  jobs-counted = jobs-length q w 0 (counted q.jobs) (counted_most q.jobs) ∙ omega arith

  pub free : counted q.jobs < 16 → Ok tt ≡ verdict_in (join_of (jobs_of q) id pages).event
  unfolding join_of
  free h = rw (p, a, jobs-counted, lt-ltb _ _ h)

  pub full : 16 ≤ counted q.jobs → Err (refusal queue_full id) ≡ verdict_in (join_of (jobs_of q) id pages).event
  unfolding join_of
  full h = rw (p, a, jobs-counted, le-ltb _ _ h)

module _ (q : Queue) (id pages : ℕ) where
  pub unfit : proper id pages ≡ false → Err (refusal job_unfit id) ≡ verdict_in (join_of (jobs_of q) id pages).event
  unfolding join_of
  unfit p = rw p

  pub waiting : proper id pages ≡ true → waits id (jobs_of q) ≡ true
      → Err (refusal job_unfit id) ≡ verdict_in (join_of (jobs_of q) id pages).event
  unfolding join_of
  waiting p a = rw (p, a)

-- if a job is not refused, the queue has room for it
pub room : (q : Queue) → Whole q → (id pages : ℕ) → Ok tt ≡ verdict_in (join_of (jobs_of q) id pages).event → counted q.jobs < 16
room q w id pages free =
    let k = (admitted_when (jobs_of q) id pages free).0 in
    omega (arith, jobs-length q w 0 (counted q.jobs) (counted_most q.jobs))

-- ---- n is how many jobs count
module _ (q : Queue) (w : Whole q) (n : ℕ) (e : n ≡ counted q.jobs) where
  small : n ≤ 16
  small = rw e (counted_most q.jobs)

  -- ---- turn
  pub turn-empty : n ≡ 0 → ◌≡◌ {A = Turned} (record { id = 0; pages = 0; queue = q }) (turned_of q)
  unfolding turned_of turn_of
  turn-empty z = rw (sym e, z)

  module _ (one : 0 < n) where
    first : jobs_of q ≡ job (get_or q.ids 0 0) (get_or q.pages 0 0) ∷ jobs_in q 1 n
    first = rw (sym e) (jobs-first q w 0 n small one)

    pub turn-leaves : get_or q.pages 0 0 ≤ 1
        → ◌≡◌ {A = Turned} (record { id = get_or q.ids 0 0; pages = 0; queue = queue_of (jobs_in q 1 n) }) (turned_of q)
    unfolding turned_of turn_of
    turn-leaves h =
        let z : get_or q.pages 0 0 - 1 ≡ 0 = omega arith in
        rw (first, z)

    pub turn-back : 1 < get_or q.pages 0 0
        → ◌≡◌ {A = Turned}
        (record {
          id = get_or q.ids 0 0;
          pages = get_or q.pages 0 0 - 1;
          queue = with_last (queue_of (jobs_in q 1 n)) (get_or q.ids 0 0) (get_or q.pages 0 0 - 1);
        })
        (turned_of q)
    unfolding turned_of turn_of
    turn-back h =
        let l = jobs-length q w 1 n small in
        let k = small in
        rw (
          first,
          lt-ltb 0 (get_or q.pages 0 0 - 1) (omega arith),
          last_jobs (jobs_in q 1 n) (get_or q.ids 0 0) (get_or q.pages 0 0 - 1) (omega arith),
        )
