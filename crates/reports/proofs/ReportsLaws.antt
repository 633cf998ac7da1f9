-- What a program's call returns and leaves in its buffer, by the order's reading, and that it fits. Assumes nothing.
use Rattle.std.specs.Prelude.{Err, Ok, Result}
use Rattle.prelude.proofs.Logic.{◌≡◌, refl, sym, ◌∙◌, List, [], ℕ, ◌≤◌, arith, length}
use Rattle.lines.proofs.LinesLaws.{refused_length}
use Rattle.lines.specs.Lines.{refused_order_text}
use Rattle.order.proofs.AcceptedLaws.{read_accepted}
use Rattle.order.specs.Accepted.{Accepted}
use Rattle.order.specs.declared.reading.Order.{Order}
use Rattle.order.specs.Reading.{reading_of}
use Rattle.refusals.specs.declared.Refusal.{Refusal}
use Rattle.text.proofs.PrintedLaws.{printed, printed-fits}
use Rattle.text.proofs.TextLaws.{put_next}
use Rattle.text.specs.Printed.{printed_of}
use Rattle.text.specs.Text.{ascii, put_of, front_of}
use Rattle.reports.specs.Reports.{report_in, report_text, longest_refused}

-- what the reader returned is the reading of the order's bytes; an order that is read is accepted
pub returned : (s : List ℕ) (r t : Result Order Refusal) → r ≡ reading_of s → r ≡ t → reading_of s ≡ t
returned s r t e f = sym e ∙ f

pub taken : (s : List ℕ) (r : Result Order Refusal) (o : Order) → r ≡ reading_of s → r ≡ Ok o → Accepted o
taken s r o e f = read_accepted s o (returned s r (Ok o) e f)

refused_short : (r : Refusal) → length (refused_order_text r) ≤ longest_refused
refused_short r = let n = refused_length (ascii "order") (ascii " place ") r in omega arith

module _ (text : Order → List ℕ) (most : ℕ) (s : List ℕ) where
  -- an order that is read, and one that is refused
  module _ (buffer : List ℕ) (room : most ≤ length buffer) (n : ℕ) (after : List ℕ) where
    pub report-read : (o : Order) → reading_of s ≡ Ok o → (n ≡ length (text o)) × (after ≡ front_of (text o) buffer)
        → (n ≡ (printed_of most (report_text text s) buffer).answer) × (after ≡ (printed_of most (report_text text s) buffer).buffer)
    unfolding report_in
    report-read o e p = rw e (printed most (text o) buffer room n after p.0 p.1)

    pub report-refused : longest_refused ≤ most → (r : Refusal) → reading_of s ≡ Err r
        → (n ≡ length (refused_order_text r)) × (after ≡ put_of buffer 0 (refused_order_text r))
        → (n ≡ (printed_of most (report_text text s) buffer).answer) × (after ≡ (printed_of most (report_text text s) buffer).buffer)
    unfolding report_in
    report-refused m r e p =
        let l = refused_short r in
        rw e (printed most (refused_order_text r) buffer room n after p.0
        (put_next buffer [] (refused_order_text r) buffer after 0 refl refl p.1 (omega arith)))

  -- what is printed is no longer than the longest text of a read order
  module _ (fits : (o : Order) → reading_of s ≡ Ok o → length (text o) ≤ most) (m : longest_refused ≤ most) where
    pub report-length : length (report_text text s) ≤ most
    unfolding report_in
    report-length = by-reading (reading_of s) refl
      where
        by-reading : (r : Result Order Refusal) → reading_of s ≡ r → length (report_in text r) ≤ most
        by-reading (Ok o) e = fits o e
        by-reading (Err r) e = let l = refused_short r in omega arith

    -- the length that a call returns fits the buffer after it
    pub report-fits : (buffer after : List ℕ) (n : ℕ) → n ≡ (printed_of most (report_text text s) buffer).answer → length after ≡ length buffer
        → n ≤ length after
    report-fits buffer after n e l = let f = printed-fits most (report_text text s) buffer report-length in omega arith
