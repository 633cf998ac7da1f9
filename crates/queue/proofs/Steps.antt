-- The cases of a step: what is true of each outcome of a join or a turn is true of the step. Assumes nothing.
use Rattle.prelude.proofs.Logic.{◌≡◌, true, false, not, ◌&&◌, List, ◌∷◌, ℕ, ◌-◌, ◌≤◌, ◌<◌, arith, ltb, lit<, length, ltb-true, ltb-false}
use Rattle.prelude.proofs.Logic.{leb-true, not-true, arms, both}
use Rattle.queue.specs.Jobs.{Job, sent, QueueStep, most_jobs, waits, proper, at_back, admits, refuses, less, join_of, turn_of}

-- an id and pages in range
abbrev pub InRange : ℕ → ℕ → Type 0
InRange id pages = (1 ≤ id) × (id ≤ 65535) × (1 ≤ pages) × (pages ≤ 16)

pub in_range : (id pages : ℕ) → proper id pages ≡ true → InRange id pages
in_range id pages h =
    let x = both _ _ h in
    let y = both _ _ x.0 in
    let z = both _ _ y.0 in
    (leb-true 1 id z.0, leb-true id 65535 z.1, leb-true 1 pages y.1, leb-true pages 16 x.1)

pub join_cases : (P : QueueStep → Type 0) (q : List Job) (id pages : ℕ) → ((n : ℕ) → 0 < n → P (refuses q n id))
    → (InRange id pages → waits id q ≡ false → length q < most_jobs → P (admits q id pages)) → P (join_of q id pages)
unfolding join_of
join_cases P q id pages r a =
    arms P (proper id pages && not (waits id q))
    (λ t. let b = both (proper id pages) (not (waits id q)) t in
    arms P (ltb (length q) most_jobs) (λ u. a (in_range id pages b.0) (not-true _ b.1) (ltb-true _ _ u)) (λ u. r 16 (lit< tt)))
    (λ t. r 17 (lit< tt))

-- the front job's page is sent, and then the queue is q
abbrev pub sends : Job → List Job → QueueStep
sends j q = record { event = sent (less j); queue = q }

pub turn_cases : (P : QueueStep → Type 0) (j : Job) (q : List Job) → (j.pages ≤ 1 → P (sends j q))
    → (1 < j.pages → P (sends j (at_back q (less j)))) → P (turn_of (j ∷ q))
unfolding turn_of
turn_cases P j q l b =
    arms (λ (x : List Job). P (sends j x)) (ltb 0 (j.pages - 1))
    (λ t. b (omega (arith, ltb-true 0 (j.pages - 1) t))) (λ t. l (omega (arith, ltb-false 0 (j.pages - 1) t)))
