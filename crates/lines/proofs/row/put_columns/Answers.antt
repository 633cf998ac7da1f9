-- Three ends: two without room at the offset, and one in which that part of the buffer becomes the row's text.
use Rattle.prelude.proofs.Logic.{sym, ap, ◌∙◌, ◌+◌, ◌-◌, ◌*◌, ◌++◌, List, ℕ, arith, length, take, drop}
use Rattle.lines.specs.Since.{row_since}
use Rattle.lines.proofs.LinesLaws.{since_length}
use Rattle.lines.proofs.Parts.{filled_put, no_room}
use Rattle.lines.proofs.row.put_columns.Goals as goal

pub returns-then-at-buffer : goal.returns-then-at-buffer
returns-then-at-buffer c =
    let a = c.args in
    let n = since_length a.date a.times.now in
    record {
      value = sym n;
      buffer_after = no_room a.buffer.now (row_since a.date a.times.now) a.at (omega (arith, c.if-at-buffer.true));
    }

pub returns-then-bytes-buffer : goal.returns-then-bytes-buffer
returns-then-bytes-buffer c =
    let a = c.args in
    let n = since_length a.date a.times.now in
    record {
      value = sym n;
      buffer_after = no_room a.buffer.now (row_since a.date a.times.now) a.at (omega (arith, c.if-bytes-buffer.true, c.if-at-buffer.false));
    }

pub returns : goal.returns
returns c =
    let a = c.args in
    let n = since_length a.date a.times.now in
    let k = a.at + (10 + 12 * length a.times.now + 1) - a.at in
    let part : List ℕ → List ℕ = λ text. take a.at a.buffer.now ++ (text ++ drop k (drop a.at a.buffer.now)) in
    record {
      value = sym n;
      buffer_after = ap part c.fill_row.ensures ∙ filled_put a.buffer.now (row_since a.date a.times.now) a.at k
          (omega arith) (omega (arith, c.if-bytes-buffer.false, c.if-at-buffer.false));
    }
