-- Invariant: the first i bytes of the text are in the buffer from the offset on.
use Rattle.prelude.proofs.Logic.{◌≡◌, length, paste}
use Rattle.text.proofs.put.put.Given as goal

abbrev pub invariant-loop-i : goal.invariant-loop-i
invariant-loop-i l = (length l.buffer ≡ length l.initial.buffer) × (l.buffer ≡ paste l.initial.buffer l.at l.text l.i)
