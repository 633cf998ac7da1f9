-- A host's calls do to its arrays what the steps do to the list. So what is true of every history is true of what a host keeps and is told:
-- `hosts_hold_the_queue`, `hosts_keep_pages`, `hosts_turn_fairly`. Assumes nothing.
use Rattle.prelude.proofs.Logic.{◌≡◌, refl, sym, ap, ◌∙◌, cond, List, [], ◌∷◌, ◌++◌, map, ℕ, zero, suc, ◌+◌, ◌-◌, ◌<◌, arith, eqb, length}
use Rattle.prelude.proofs.Logic.{get_or, take, drop, replicate, length-map, List·getD-append, List·getD-map, split_at, length-take-le, ne_eqb}
use Rattle.queue.specs.declared.{Joined.Joined, Turned.Turned}
use Rattle.queue.specs.Jobs.{Job, job, less, admitted, refused, sent, QueueStep, join_of, turn_of}
use Rattle.queue.specs.History.{Call, join, turn, step_of, after, events, turns, every_id, pages_left, Sound}
use Rattle.queue.specs.Arrays.{padded, id_of, pages_of, queue_of, sent_in, joined_by, joined_of, turned_by, turned_of}
use Rattle.queue.specs.Host.{held_after_one, held_after_all, told, told_all, total}
use Rattle.queue.specs.Promises.{HostsHoldTheQueue, HostsKeepPages, HostsTurnFairly}
use Rattle.queue.proofs.Steps.{join_cases}
use Rattle.queue.proofs.Invariant.{step_sound, sound_from, empty_sound, queues_are_sound}
use Rattle.queue.proofs.{Pages.pages_are_kept, Fairness.turns_are_fair, Abstraction.shown}

-- ---- one call
join_shown : (l : List Job) (id pages : ℕ) → Sound l → joined_of (queue_of l) id pages ≡ joined_by (queue_of l) (join_of l id pages)
unfolding joined_of
join_shown l id pages s = ap (λ (m : List Job). joined_by (queue_of l) (join_of m id pages)) (shown l s.few)

turn_shown : (l : List Job) → Sound l → turned_of (queue_of l) ≡ turned_by (queue_of l) (turn_of l)
unfolding turned_of
turn_shown l s = ap (λ (m : List Job). turned_by (queue_of l) (turn_of m)) (shown l s.few)

one_held : (l : List Job) (c : Call) → Sound l → held_after_one (queue_of l) c ≡ queue_of (step_of l c).queue
unfolding turn_of
one_held l (join id pages) s =
    ap (λ (t : Joined). t.queue) (join_shown l id pages s)
    ∙ join_cases (λ (x : QueueStep). (joined_by (queue_of l) x).queue ≡ queue_of x.queue) l id pages (λ n o. refl) (λ r w k. refl)
one_held [] turn s = ap (λ (t : Turned). t.queue) (turn_shown [] s)
one_held (j ∷ l) turn s = ap (λ (t : Turned). t.queue) (turn_shown (j ∷ l) s)

one_told : (l : List Job) (c : Call) → Sound l → told (queue_of l) c ≡ (step_of l c).event
unfolding turn_of
one_told l (join id pages) s =
    rw (join_shown l id pages s)
    (join_cases (λ (x : QueueStep). cond (eqb (joined_by (queue_of l) x).refusal.number 0) (admitted (job id pages))
    (refused (joined_by (queue_of l) x).refusal) ≡ x.event) l id pages
    (λ n o. rw (ne_eqb n 0 (λ e. omega arith))) (λ r w k. refl))
one_told [] turn s = rw (turn_shown [] s)
one_told (j ∷ l) turn s = let p = s.proper.0 in rw (turn_shown (j ∷ l) s, ne_eqb j.id 0 (λ e. omega arith))

-- ---- every history
held_from : (l : List Job) (h : List Call) → Sound l → held_after_all (queue_of l) h ≡ queue_of (after l h)
held_from l [] s = refl
held_from l (c ∷ h) s = rw (one_held l c s) (held_from (step_of l c).queue h (step_sound l c s))

told_from : (l : List Job) (h : List Call) → Sound l → told_all (queue_of l) h ≡ events l h
told_from l [] s = refl
told_from l (c ∷ h) s = rw (one_held l c s, one_told l c s, told_from (step_of l c).queue h (step_sound l c s))

pub hosts_hold_the_queue : HostsHoldTheQueue
hosts_hold_the_queue h = (held_from [] h empty_sound, told_from [] h empty_sound)

-- ---- the pages
zeros : (n : ℕ) → total (replicate n 0) ≡ 0
zeros zero = refl
zeros (suc n) = let e = zeros n in omega arith

total_more : (a b : List ℕ) → total (a ++ b) ≡ total a + total b
total_more [] b = omega arith
total_more (x ∷ a) b = let e = total_more a b in omega arith

total_pages : (l : List Job) → total (map pages_of l) ≡ pages_left every_id l
total_pages [] = refl
total_pages (j ∷ l) = let e = total_pages l in omega arith

left_shown : (l : List Job) → total (queue_of l).pages ≡ pages_left every_id l
left_shown l =
    let z = zeros (16 - length (map pages_of l)) in
    let p = total_pages l in
    total_more (map pages_of l) (replicate (16 - length (map pages_of l)) 0) ∙ omega arith

pub hosts_keep_pages : HostsKeepPages
hosts_keep_pages h =
    let held = hosts_hold_the_queue h in
    rw (held.0, held.1, left_shown (after [] h)) (pages_are_kept every_id h)

-- ---- the turns
-- the job with k jobs ahead of it is at k in the arrays
array_at : (f : Job → ℕ) (l : List Job) (k : ℕ) (d : Job) → f d ≡ 0 → k < length l → get_or (padded (map f l)) k 0 ≡ f (get_or l k d)
array_at f l k d z h =
    let n : length (map f l) ≡ length l = length-map l f in
    List·getD-append (map f l) (replicate (16 - length (map f l)) 0) 0 k (omega arith) ∙ ap (get_or (map f l) k) (sym z)
    ∙ List·getD-map f l k d

fair_at : (h c : List Call) (k : ℕ) → k < length (after [] h) → turns c ≡ k
    → (turn_of (after (after [] h) c)).event ≡ sent (less (get_or (after [] h) k (job 0 0)))
fair_at h c k i t =
    let l = after [] h in
    let n : length (take k l) ≡ k = length-take-le k l (omega arith) in
    turns_are_fair h c (take k l) (drop (suc k) l) (get_or l k (job 0 0)) (split_at l k (job 0 0) i) (t ∙ sym n)

pub hosts_turn_fairly : HostsTurnFairly
hosts_turn_fairly h c k = rw (held_from [] h empty_sound) (λ i t.
    let l = after [] h in
    let s : Sound (after l c) = sound_from l c (queues_are_sound h) in
    let e : turned_of (held_after_all (queue_of l) c) ≡ turned_by (queue_of (after l c)) (turn_of (after l c)) =
    ap turned_of (held_from l c (queues_are_sound h)) ∙ turn_shown (after l c) s in
    let f = ap sent_in (fair_at h c k i t) in (
      ap (λ (x : Turned). x.id) e ∙ ap id_of f ∙ sym (array_at id_of l k (job 0 0) refl i),
      ap (λ (x : Turned). x.pages) e ∙ ap pages_of f ∙ ap (λ (n : ℕ). n - 1) (sym (array_at pages_of l k (job 0 0) refl i)),
    ))
