-- Histories of a host's calls: each is on the arrays that the last one left. And what their results tell the host.
use Rattle.std.specs.Prelude.{cond, List, [], ◌∷◌, ℕ, ◌+◌, eqb}
use Rattle.queue.specs.declared.Queue.{Queue}
use Rattle.queue.specs.Jobs.{job, Event, admitted, refused, sent, nothing}
use Rattle.queue.specs.History.{Call, join, turn}
use Rattle.queue.specs.Arrays.{queue_of, joined_of, turned_of}

-- no job, and zeros in the arrays
abbrev pub empty : Queue
empty = queue_of []

abbrev pub held_after_one : Queue → Call → Queue
held_after_one q (join id pages) = (joined_of q id pages).queue
held_after_one q turn = (turned_of q).queue

abbrev pub held_after_all : Queue → List Call → Queue
held_after_all q [] = q
held_after_all q (c ∷ h) = held_after_all (held_after_one q c) h

-- a job is admitted if the number is 0; a page is sent if the id is not 0
abbrev pub told : Queue → Call → Event
told q (join id pages) = let r = (joined_of q id pages).refusal in cond (eqb r.number 0) (admitted (job id pages)) (refused r)
told q turn = cond (eqb (turned_of q).id 0) nothing (sent (job (turned_of q).id (turned_of q).pages))

abbrev pub told_all : Queue → List Call → List Event
told_all q [] = []
told_all q (c ∷ h) = told q c ∷ told_all (held_after_one q c) h

abbrev pub total : List ℕ → ℕ
total [] = 0
total (p ∷ pages) = p + total pages
