-- One byte for up to 250 rows, and two bytes for more.
use Rattle.prelude.proofs.Logic.{arith, le-leb, lt-leb}
use Rattle.order_numbers.specs.Bytes.{up_to}
use Rattle.order_numbers.specs.Values.{rows_bytes}
use Rattle.order_numbers.proofs.put.Line.rows.Goals as goal

pub returns-then-rows-le-MOST_IN_BYTE-clause-end : goal.returns-then-rows-le-MOST_IN_BYTE-clause-end
unfolding rows_bytes
returns-then-rows-le-MOST_IN_BYTE-clause-end c =
    simp (le-leb c.args.rows 250 c.if-rows-le-MOST_IN_BYTE.true) (omega (arith, c.byte.ensures.end))

pub returns-then-rows-le-MOST_IN_BYTE-clause-line_after : goal.returns-then-rows-le-MOST_IN_BYTE-clause-line_after
unfolding rows_bytes up_to
returns-then-rows-le-MOST_IN_BYTE-clause-line_after c =
    let few = c.if-rows-le-MOST_IN_BYTE.true in
    let bytes = simp (le-leb c.args.rows 255 (omega arith)) at c.byte.ensures.line_after in
    simp (le-leb c.args.rows 250 few) bytes

pub returns-else-rows-le-MOST_IN_BYTE-clause-end : goal.returns-else-rows-le-MOST_IN_BYTE-clause-end
unfolding rows_bytes
returns-else-rows-le-MOST_IN_BYTE-clause-end c =
    simp (lt-leb _ _ c.if-rows-le-MOST_IN_BYTE.false, ← c.word_bytes.ensures) c.field.ensures.end

pub returns-else-rows-le-MOST_IN_BYTE-clause-line_after : goal.returns-else-rows-le-MOST_IN_BYTE-clause-line_after
unfolding rows_bytes
returns-else-rows-le-MOST_IN_BYTE-clause-line_after c =
    simp (lt-leb _ _ c.if-rows-le-MOST_IN_BYTE.false, ← c.word_bytes.ensures) c.field.ensures.line_after
