-- `jobs_leave_when_sent`: while an id waits it is not admitted again. So its pages sent and its pages left are those that it joined with.
-- Assumes nothing.
use Rattle.prelude.proofs.Logic.{◌≡◌, refl, sym, ap, ◌∙◌, Bool, true, false, true≢false, false≢true, List, [], ◌∷◌, ℕ, ◌+◌, ◌≤◌}
use Rattle.prelude.proofs.Logic.{arith, eqb, ltb, eqb-true, eq-eqb, lt-ltb, le-ltb, arms, cases}
use Rattle.queue.specs.Jobs.{Job, job, Event, admitted, refused, sent, nothing, QueueStep, waits, join_of, turn_of}
use Rattle.queue.specs.History.{Call, join, turn, step_of, after, events, only_id, when, admitted_by, pages_admitted, pages_sent}
use Rattle.queue.specs.History.{pages_left, WaitsThrough, AllProper, Sound}
use Rattle.queue.specs.Promises.{JobsLeaveWhenSent}
use Rattle.queue.proofs.Steps.{join_cases}
use Rattle.queue.proofs.Invariant.{neither, step_sound, sound_from, queues_are_sound}
use Rattle.queue.proofs.Pages.{left_more, kept_from}

-- ---- an id has pages left while it waits
none_left : (id : ℕ) (q : List Job) → waits id q ≡ false → pages_left (only_id id) q ≡ 0
none_left id [] w = refl
none_left id (x ∷ q) w =
    let n = neither (eqb x.id id) (waits id q) w in
    let e = none_left id q n.1 in
    rw n.0 (omega arith)

some_left : (id : ℕ) (q : List Job) → AllProper q → waits id q ≡ true → 1 ≤ pages_left (only_id id) q
some_left id [] a w = absurd (false≢true w)
some_left id (x ∷ q) a w =
    cases (eqb x.id id) (λ t. simp t (omega (arith, a.2))) (λ t. simp t (omega (arith, some_left id q a.4 (simp t at w))))

-- ---- no id is admitted while it waits
waiting_out : (i id : ℕ) (q : List Job) (n : ℕ) → waits i q ≡ true → waits id q ≡ false → when (only_id i id) n ≡ 0
waiting_out i id q n w v =
    arms (λ (x : ℕ). x ≡ 0) (eqb id i)
    (λ t. let e = eqb-true id i t in absurd (true≢false (sym w ∙ ap (λ (k : ℕ). waits k q) (sym e) ∙ v)))
    (λ t. refl)

none_admitted : (i : ℕ) (q : List Job) (c : Call) → waits i q ≡ true → admitted_by (only_id i) (step_of q c).event ≡ 0
unfolding turn_of
none_admitted i q (join id pages) w =
    join_cases (λ (s : QueueStep). admitted_by (only_id i) s.event ≡ 0) q id pages (λ n o. refl) (λ r v l. waiting_out i id q pages w v)
none_admitted i [] turn w = refl
none_admitted i (j ∷ q) turn w = refl

none_through : (i : ℕ) (q : List Job) (h : List Call) → WaitsThrough i q h → pages_admitted (only_id i) (events q h) ≡ 0
none_through i q [] w = refl
none_through i q (c ∷ h) w =
    let e = none_admitted i q c w.0 in
    let f = none_through i (step_of q c).queue h w.1 in
    omega arith

-- ---- what an admitted job leaves
abbrev is_admitted : Event → Bool
is_admitted (admitted j) = true
is_admitted (refused r) = false
is_admitted (sent j) = false
is_admitted nothing = false

admitted_left : (q : List Job) (id pages : ℕ) → is_admitted (join_of q id pages).event ≡ true
    → pages_left (only_id id) (join_of q id pages).queue ≡ pages
admitted_left q id pages =
    join_cases (λ (s : QueueStep). is_admitted s.event ≡ true → pages_left (only_id id) s.queue ≡ pages) q id pages
    (λ n o e. absurd (false≢true e))
    (λ r w l e. let a = left_more (only_id id) q (job id pages) in let b = none_left id q w in
    let c : when (only_id id id) pages ≡ pages = rw (eq-eqb id id refl) in omega arith)

-- it waits while fewer pages are sent than it joined with
waits_until : (id gone pages : ℕ) (q : List Job) → AllProper q → gone + pages_left (only_id id) q ≡ pages → waits id q ≡ ltb gone pages
waits_until id gone pages q a e =
    cases (waits id q) (λ w. w ∙ sym (lt-ltb gone pages (omega (arith, some_left id q a w))))
    (λ w. w ∙ sym (le-ltb gone pages (omega (arith, none_left id q w))))

pub jobs_leave_when_sent : JobsLeaveWhenSent
jobs_leave_when_sent h c id pages j w =
    let q = (join_of (after [] h) id pages).queue in
    let s : Sound q = step_sound (after [] h) (join id pages) (queues_are_sound h) in
    let k = kept_from (only_id id) q c s in
    let a = admitted_left (after [] h) id pages (ap is_admitted j) in
    let b = none_through id q c w in
    let e : pages_sent (only_id id) (events q c) + pages_left (only_id id) (after q c) ≡ pages = omega arith in
    (e, waits_until id (pages_sent (only_id id) (events q c)) pages (after q c) (sound_from q c s).proper e)
