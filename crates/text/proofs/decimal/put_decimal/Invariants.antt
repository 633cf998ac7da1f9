use Rattle.prelude.proofs.Logic.{◌≡◌}
use Rattle.text.proofs.Spelling.{Spelled}
use Rattle.text.proofs.decimal.put_decimal.Given as goal

abbrev pub invariant-loop-first : goal.invariant-loop-first
invariant-loop-first l = record { spelled : Spelled l.n l.digits l.first l.rest; same : l.buffer ≡ l.initial.buffer }
