-- `pages_are_kept`, by a law about one step. Assumes nothing.
use Rattle.prelude.proofs.Logic.{◌≡◌, refl, sym, ap, ◌∙◌, Bool, true, false, List, [], ◌∷◌, ℕ, ◌+◌, ◌-◌, ◌≤◌, arith}
use Rattle.queue.specs.Jobs.{Job, job, less, QueueStep, at_back, turn_of}
use Rattle.queue.specs.History.{Call, join, turn, step_of, after, events, Ids, when, admitted_by, sent_by, pages_admitted, pages_sent}
use Rattle.queue.specs.{History.pages_left, History.Sound, Promises.PagesAreKept}
use Rattle.queue.proofs.{Steps.join_cases, Steps.turn_cases, Invariant.step_sound, Invariant.empty_sound}

when_more : (t : Bool) (m n : ℕ) → when t (m + n) ≡ when t m + when t n
when_more true m n = refl
when_more false m n = refl

-- the page that a turn takes off
one_less : (t : Bool) (n : ℕ) → 1 ≤ n → when t 1 + when t (n - 1) ≡ when t n
one_less t n h = let e : 1 + (n - 1) ≡ n = omega arith in sym (when_more t 1 (n - 1)) ∙ ap (when t) e

pub left_more : (of : Ids) (q : List Job) (j : Job) → pages_left of (at_back q j) ≡ pages_left of q + when (of j.id) j.pages
left_more of [] j = omega arith
left_more of (x ∷ q) j = let e = left_more of q j in omega arith

-- the pages that a step sends, and those left after it, are those left before it and those that it admits
abbrev Kept : Ids → List Job → QueueStep → Type 0
Kept of q s = sent_by of s.event + pages_left of s.queue ≡ pages_left of q + admitted_by of s.event

step_kept : (of : Ids) (q : List Job) (c : Call) → Sound q → Kept of q (step_of q c)
unfolding turn_of
step_kept of q (join id pages) s =
    join_cases (Kept of q) q id pages (λ n o. omega arith) (λ r w l. omega (arith, left_more of q (job id pages)))
step_kept of [] turn s = refl
step_kept of (j ∷ q) turn s =
    let e = one_less (of j.id) j.pages s.proper.2 in
    turn_cases (Kept of (j ∷ q)) j q
    (λ l. let one : 1 ≡ j.pages = omega (arith, s.proper.2) in omega (arith, ap (when (of j.id)) one))
    (λ l. omega (arith, left_more of q (less j)))

pub kept_from : (of : Ids) (q : List Job) (h : List Call) → Sound q
    → pages_sent of (events q h) + pages_left of (after q h) ≡ pages_left of q + pages_admitted of (events q h)
kept_from of q [] s = omega arith
kept_from of q (c ∷ h) s =
    let e = step_kept of q c s in
    let f = kept_from of (step_of q c).queue h (step_sound q c s) in
    omega arith

pub pages_are_kept : PagesAreKept
pages_are_kept of h = let e = kept_from of [] h empty_sound in omega arith
