-- What a printed text gives in a buffer that is too short and in one that is not; its length fits the buffer. Assumes nothing.
use Rattle.prelude.proofs.Logic.{◌≡◌, refl, Bool, true, false, List, ℕ, ◌≤◌, ◌<◌, arith, ltb, length, ltb-false, lt-ltb, le-ltb}
use Rattle.text.specs.Text.{front_of}
use Rattle.text.specs.Printed.{printed_of}

module _ (longest : ℕ) (text buffer : List ℕ) where
  pub printed-short : length buffer < longest
      → (0 ≡ (printed_of longest text buffer).answer) × (buffer ≡ (printed_of longest text buffer).buffer)
  unfolding printed_of
  printed-short h = (simp (lt-ltb (length buffer) longest h), simp (lt-ltb (length buffer) longest h))

  pub printed : longest ≤ length buffer → (n : ℕ) (after : List ℕ) → n ≡ length text → after ≡ front_of text buffer
      → (n ≡ (printed_of longest text buffer).answer) × (after ≡ (printed_of longest text buffer).buffer)
  unfolding printed_of
  printed h n after e f = (simp (le-ltb (length buffer) longest h) e, simp (le-ltb (length buffer) longest h) f)

  pub printed-fits : length text ≤ longest → (printed_of longest text buffer).answer ≤ length buffer
  unfolding printed_of
  printed-fits h = by-room (ltb (length buffer) longest) refl
    where
      by-room : (b : Bool) → ltb (length buffer) longest ≡ b → (printed_of longest text buffer).answer ≤ length buffer
      by-room true e = rw e (omega arith)
      by-room false e = let r = ltb-false (length buffer) longest e in rw e (omega arith)
