-- Invariant: the place is that of the number so far, with which the bytes from here on say what they all say.
use Rattle.std.proofs.Common.{◌≡◌, ℕ, drop}
use Rattle.sentences.specs.Guess.{place_in, place_from}
use Rattle.sentences.proofs.reading.place_in.Given as goal

abbrev pub invariant-loop-b : goal.invariant-loop-b
invariant-loop-b l = (v : ℕ) × (l.place ≡ place_from v) × (place_in v (drop l.b-index l.bytes) ≡ place_in 0 l.bytes)
