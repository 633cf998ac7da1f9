-- This file need not be believed: what parts of the code make of the arrays, and what they say of a job that would join. The contracts of
-- the two calls use Arrays alone.
use Rattle.std.specs.Prelude.{ℕ, ◌+◌, set, Result, Ok, Err}
use Rattle.refusals.specs.declared.Refusal.{Refusal}
use Rattle.queue.specs.declared.Queue.{Queue}
use Rattle.queue.specs.Jobs.{Event, refused}

-- one job more, at the back
abbrev pub with_last : Queue → ℕ → ℕ → Queue
with_last q id pages = record { jobs = q.jobs + 1; ids = set q.ids q.jobs id; pages = set q.pages q.jobs pages }

-- whether a job may join
abbrev pub verdict_in : Event → Result (Unit {0}) Refusal
verdict_in (refused r) = Err r
verdict_in _ = Ok tt
