-- The line has the order's bytes, and `hand_out` writes them to the buffer.
use Rattle.order_numbers.proofs.writing.write_order.Goals as goal

pub returns : goal.returns
returns c =
    record {
      value = simp (← c.of_order-line.ensures.line_after) c.hand_out.ensures.value;
      buffer_after = simp (← c.of_order-line.ensures.line_after) c.hand_out.ensures.buffer_after;
    }
