-- `queues_are_sound`, since each step keeps a queue sound. Assumes nothing.
use Rattle.prelude.proofs.Logic.{◌≡◌, refl, sym, Bool, true, false, true≢false, ◌||◌, List, [], ◌∷◌, ℕ, ◌<◌, arith, eqb, lit≤, length}
use Rattle.prelude.proofs.Logic.{length-append, eqb-false, ne_eqb}
use Rattle.queue.specs.Jobs.{Job, job, less, QueueStep, waits, at_back, turn_of, most_jobs}
use Rattle.queue.specs.History.{Call, join, turn, step_of, after, NoIdTwice, AllProper, Sound}
use Rattle.queue.specs.Promises.{QueuesAreSound}
use Rattle.queue.proofs.Steps.{InRange, join_cases, turn_cases}

pub neither : (a b : Bool) → (a || b) ≡ false → (a ≡ false) × (b ≡ false)
neither true b h = absurd (true≢false h)
neither false b h = (refl, h)

-- ---- one job more at the back
waits_more : (id : ℕ) (q : List Job) (j : Job) → waits id q ≡ false → eqb j.id id ≡ false → waits id (at_back q j) ≡ false
waits_more id [] j w e = rw e
waits_more id (x ∷ q) j w e =
    let n = neither (eqb x.id id) (waits id q) w in
    rw n.0 (waits_more id q j n.1 e)

other : (a b : ℕ) → eqb a b ≡ false → eqb b a ≡ false
other a b h = ne_eqb b a (λ e. eqb-false a b h (sym e))

once_more : (q : List Job) (j : Job) → NoIdTwice q → waits j.id q ≡ false → NoIdTwice (at_back q j)
once_more [] j o w = (refl, tt)
once_more (x ∷ q) j o w =
    let n = neither (eqb x.id j.id) (waits j.id q) w in
    (waits_more x.id q j o.0 (other x.id j.id n.0), once_more q j o.1 n.1)

proper_more : (q : List Job) (j : Job) → AllProper q → InRange j.id j.pages → AllProper (at_back q j)
proper_more [] j a r = (r.0, r.1, r.2, r.3, tt)
proper_more (x ∷ q) j a r = (a.0, a.1, a.2, a.3, proper_more q j a.4 r)

sound_more : (q : List Job) (j : Job) → NoIdTwice q → AllProper q → length q < most_jobs → waits j.id q ≡ false
    → InRange j.id j.pages → Sound (at_back q j)
sound_more q j o a l w r = record { few = simp length-append (omega arith); once = once_more q j o w; proper = proper_more q j a r }

-- ---- each step keeps a queue sound
pub step_sound : (q : List Job) (c : Call) → Sound q → Sound (step_of q c).queue
unfolding turn_of
step_sound q (join id pages) s =
    join_cases (λ (x : QueueStep). Sound x.queue) q id pages (λ n o. s)
    (λ r w l. sound_more q (job id pages) s.once s.proper l w r)
step_sound [] turn s = s
step_sound (j ∷ q) turn s =
    turn_cases (λ (x : QueueStep). Sound x.queue) j q
    (λ l. record { few = omega (arith, s.few); once = s.once.1; proper = s.proper.4 })
    (λ l. sound_more q (less j) s.once.1 s.proper.4 (omega (arith, s.few)) s.once.0
    (s.proper.0, s.proper.1, omega (arith, l), omega (arith, s.proper.3)))

pub sound_from : (q : List Job) (h : List Call) → Sound q → Sound (after q h)
sound_from q [] s = s
sound_from q (c ∷ h) s = sound_from (step_of q c).queue h (step_sound q c s)

pub empty_sound : Sound []
empty_sound = record { few = lit≤ tt; once = tt; proper = tt }

pub queues_are_sound : QueuesAreSound
queues_are_sound h = sound_from [] h empty_sound
