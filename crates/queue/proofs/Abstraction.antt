-- The arrays and the list of jobs. `shown`: a list put into arrays is read back. What parts of the code make, as lists. Assumes nothing.
use mathlib.Core.List.{map-append}
use Rattle.prelude.proofs.Logic.{◌≡◌, refl, sym, ap, ◌∙◌, Bool, ◌||◌, List, [], ◌∷◌, map, ℕ, suc, ◌-◌, ◌≤◌, ◌<◌, arith, ltb, eqb}
use Rattle.prelude.proofs.Logic.{lit≤, length, get_or, set, replicate, length-append, length-map, slice, slice-cons, length-slice, take_at}
use Rattle.prelude.proofs.Logic.{ltb-true, ltb-false, arms}
use Rattle.queue.specs.declared.Queue.{Queue}
use Rattle.queue.specs.Jobs.{Job, job, waits, at_back, most_jobs}
use Rattle.queue.specs.Arrays.{counted, paired, jobs_in, jobs_of, padded, id_of, pages_of, queue_of}
use Rattle.prelude.specs.Lists.{listed}
use Rattle.queue.specs.Parts.{with_last}
use Rattle.queue.proofs.Lists.{padded_more}

-- both arrays have their length, as the arrays of every queue of the code do
pub record Whole (q : Queue) : Type 0 where
  pub ids : length q.ids ≡ 16
  pub pages : length q.pages ≡ 16

-- ---- pairs
pub paired_ids : (a b : List ℕ) → length a ≡ length b → map id_of (paired a b) ≡ a
paired_ids [] b e = refl
paired_ids (x ∷ a) [] e = absurd (omega arith)
paired_ids (x ∷ a) (y ∷ b) e = ap (λ (l : List ℕ). x ∷ l) (paired_ids a b (omega arith))

pub paired_pages : (a b : List ℕ) → length a ≡ length b → map pages_of (paired a b) ≡ b
paired_pages [] [] e = refl
paired_pages [] (y ∷ b) e = absurd (omega arith)
paired_pages (x ∷ a) [] e = absurd (omega arith)
paired_pages (x ∷ a) (y ∷ b) e = ap (λ (l : List ℕ). y ∷ l) (paired_pages a b (omega arith))

pub paired_length : (a b : List ℕ) → length a ≡ length b → length (paired a b) ≡ length a
paired_length a b e = sym (length-map (paired a b) id_of) ∙ ap length (paired_ids a b e)

pub paired_waits : (id : ℕ) (a b : List ℕ) → length a ≡ length b → waits id (paired a b) ≡ listed a id
unfolding listed
paired_waits id [] b e = refl
paired_waits id (x ∷ a) [] e = absurd (omega arith)
paired_waits id (x ∷ a) (y ∷ b) e = ap (λ (t : Bool). eqb x id || t) (paired_waits id a b (omega arith))

paired_back : (l : List Job) → paired (map id_of l) (map pages_of l) ≡ l
paired_back [] = refl
paired_back (j ∷ l) = ap (λ (m : List Job). j ∷ m) (paired_back l)

-- ---- the jobs of a queue from place `from` to before `to`
module _ (q : Queue) (w : Whole q) (from to : ℕ) (up : to ≤ 16) where
  ids-long : length (slice from to q.ids) ≡ to - from
  ids-long = length-slice from to q.ids (omega (arith, w.ids))

  pages-long : length (slice from to q.pages) ≡ to - from
  pages-long = length-slice from to q.pages (omega (arith, w.pages))

  pub jobs-length : length (jobs_in q from to) ≡ to - from
  jobs-length = paired_length (slice from to q.ids) (slice from to q.pages) (ids-long ∙ sym pages-long) ∙ ids-long

  pub jobs-waits : (id : ℕ) → waits id (jobs_in q from to) ≡ listed (slice from to q.ids) id
  jobs-waits id = paired_waits id (slice from to q.ids) (slice from to q.pages) (ids-long ∙ sym pages-long)

  -- what `lined` makes
  pub lined-jobs : ◌≡◌
      {A = Queue} (record { jobs = to - from; ids = padded (slice from to q.ids); pages = padded (slice from to q.pages) })
      (queue_of (jobs_in q from to))
  lined-jobs =
      let e = ids-long ∙ sym pages-long in
      rw (
        jobs-length,
        paired_ids (slice from to q.ids) (slice from to q.pages) e,
        paired_pages (slice from to q.ids) (slice from to q.pages) e,
      )

  -- the first of them
  pub jobs-first : from < to → jobs_in q from to ≡ job (get_or q.ids from 0) (get_or q.pages from 0) ∷ jobs_in q (suc from) to
  jobs-first h =
      let a : to ≤ length q.ids = omega (arith, w.ids) in
      let b : to ≤ length q.pages = omega (arith, w.pages) in
      rw (slice-cons from to q.ids 0 h a, slice-cons from to q.pages 0 h b)

-- what `with_last` makes
last_of : (f : Job → ℕ) (l : List Job) (j : Job) → length l < 16 → set (padded (map f l)) (length l) (f j) ≡ padded (map f (at_back l j))
last_of f l j h =
    let n : length (map f l) ≡ length l = length-map l f in
    let p = padded_more (map f l) (f j) (omega arith) in
    rw (map-append f, sym n) p

pub last_jobs : (l : List Job) (id pages : ℕ) → length l < 16 → with_last (queue_of l) id pages ≡ queue_of (at_back l (job id pages))
last_jobs l id pages h = rw (last_of id_of l (job id pages), last_of pages_of l (job id pages), length-append)

-- ---- a list put into arrays is read back
pub counted_small : (n : ℕ) → n ≤ 16 → counted n ≡ n
counted_small n h = arms (λ (x : ℕ). x ≡ n) (ltb n most_jobs) (λ t. refl) (λ t. omega (arith, ltb-false n most_jobs t))

pub counted_most : (n : ℕ) → counted n ≤ 16
counted_most n = arms (λ (x : ℕ). x ≤ 16) (ltb n most_jobs) (λ t. omega (arith, ltb-true n most_jobs t)) (λ t. lit≤ tt)

padded_take : (l : List ℕ) (n : ℕ) → length l ≡ n → slice 0 n (padded l) ≡ l
padded_take l n e = take_at l (replicate (16 - length l) 0) n e

pub shown : (l : List Job) → length l ≤ 16 → jobs_of (queue_of l) ≡ l
shown l h =
    rw (
      counted_small (length l) h,
      padded_take (map id_of l) (length l) (length-map l id_of),
      padded_take (map pages_of l) (length l) (length-map l pages_of),
    ) (paired_back l)
