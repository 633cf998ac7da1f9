-- A whole text at the front of a lent buffer: what the call returns, and every byte of the buffer after it. A buffer that is shorter than
-- the longest text of its kind stays as it was, and the call returns 0.
use Rattle.std.specs.Prelude.{ℕ, cond, List, ltb, length}
use Rattle.text.specs.Text.{front_of}

pub record Printed : Type 0 where
  pub answer : ℕ
  pub buffer : List ℕ

unfoldable pub printed_of : ℕ → List ℕ → List ℕ → Printed
printed_of longest text buffer =
    cond (ltb (length buffer) longest) (record { answer = 0; buffer = buffer })
    (record { answer = length text; buffer = front_of text buffer })
