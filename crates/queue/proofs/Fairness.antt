-- `turns_are_fair`: a job that joins comes after the others, and a turn takes one job from ahead of them. Assumes nothing.
use Rattle.prelude.proofs.Logic.{◌≡◌, refl, List, [], ◌∷◌, ◌++◌, append_assoc, ℕ, suc, arith, length}
use Rattle.queue.specs.Jobs.{Job, job, less, sent, QueueStep, at_back, join_of, turn_of}
use Rattle.queue.specs.History.{Call, join, turn, after, turns}
use Rattle.queue.specs.Promises.{TurnsAreFair}
use Rattle.queue.proofs.Steps.{join_cases, turn_cases}

-- the queue has the job j with the jobs a ahead of it
abbrev Ahead : List Job → List Job → Job → Type 0
Ahead q a j = (b : List Job) × (q ≡ a ++ (j ∷ b))

ahead_more : (q a : List Job) (j x : Job) → Ahead q a j → Ahead (at_back q x) a j
ahead_more q a j x (b, e) = (at_back b x, rw e (append_assoc a (j ∷ b) (x ∷ [])))

-- the same jobs are ahead after a join, and one fewer after a turn
join_ahead : (q a : List Job) (j : Job) (id pages : ℕ) → Ahead q a j → Ahead (join_of q id pages).queue a j
join_ahead q a j id pages h =
    join_cases (λ (s : QueueStep). Ahead s.queue a j) q id pages (λ n o. h) (λ r w l. ahead_more q a j (job id pages) h)

turn_ahead : (x : Job) (q a : List Job) (j : Job) → Ahead q a j → Ahead (turn_of (x ∷ q)).queue a j
turn_ahead x q a j h = turn_cases (λ (s : QueueStep). Ahead s.queue a j) x q (λ l. h) (λ l. ahead_more q a j (less x) h)

next_turn : (q a : List Job) (j : Job) (h : List Call) → Ahead q a j → turns h ≡ length a → (turn_of (after q h)).event ≡ sent (less j)
unfolding turn_of
next_turn q [] j [] (b, e) t = rw e
next_turn q (x ∷ a) j [] (b, e) t = let z : 0 ≡ suc (length a) = t in absurd (omega arith)
next_turn q a j (join id pages ∷ h) w t = next_turn (join_of q id pages).queue a j h (join_ahead q a j id pages w) t
next_turn q [] j (turn ∷ h) w t = absurd (omega arith)
next_turn q (x ∷ a) j (turn ∷ h) (b, e) t =
    rw e (next_turn (turn_of (x ∷ (a ++ (j ∷ b)))).queue a j h (turn_ahead x (a ++ (j ∷ b)) a j (b, refl)) (omega arith))

pub turns_are_fair : TurnsAreFair
turns_are_fair h c a b j e t = next_turn (after [] h) a j c (b, e) t
