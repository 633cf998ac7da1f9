-- The cases of `row_call_of` in the code's order.
use Rattle.std.proofs.lemmas.Result.{err_from_is_err_and}
use Rattle.prelude.proofs.Logic.{refl, sym, ap, subst, ◌∙◌, [], ◌^◌, ◌<◌, arith, rules}
use Rattle.lines.specs.Lines.{columns_of, row_text}
use Rattle.lines.proofs.LinesLaws.{columns_length}
use Rattle.lines.proofs.SinceLaws.{row-since}
use Rattle.schedule.specs.Each.{NearIn}
use Rattle.schedule.specs.Times.{start_of, started_of, started_in}
use Rattle.text.proofs.TextLaws.{put_next}
use Rattle.text.specs.Text.{put_of}
use Rattle.sheets.specs.Rows.{worked_call_of}
use Rattle.sheets.proofs.Answers.{row-short, row_read, row-refused, room-short, room-there, row_there, row_lacking}
use Rattle.sheets.proofs.row.written.Goals as goal

pub returns-then-buffer-lt-ROW_BYTES : goal.returns-then-buffer-lt-ROW_BYTES
returns-then-buffer-lt-ROW_BYTES c =
    let a = c.args in
    let l = row-short a.order.now a.buffer.now a.row c.if-buffer-lt-ROW_BYTES.true in
    record { value = c.new.ensures ∙ l.0; buffer_after = l.1 }

pub returns-in_err-order : goal.returns-in_err-order
returns-in_err-order c =
    let a = c.args in
    let p = err_from_is_err_and c.from_residual.result c.from_residual.ensures.1 in
    let l = row-refused a.order.now a.buffer.now a.row c.if-buffer-lt-ROW_BYTES.false _ (sym c.read.ensures ∙ c.in_err-order.was) in
    record { value = rw (p.1, p.2) l.0; buffer_after = l.1 }

pub returns-then-buffer-bytes : goal.returns-then-buffer-bytes
returns-then-buffer-bytes c =
    let a = c.args in
    let o = c.in_ok-order.order in
    let r = row_read a.order.now a.buffer.now a.row c.if-buffer-lt-ROW_BYTES.false o (sym c.read.ensures ∙ c.in_ok-order.was) in
    let l = room-short o a.row a.buffer.now (rw c.row_bytes-bytes.ensures at c.if-buffer-bytes.true) in
    record { value = c.new-then-buffer-bytes.ensures ∙ l.0 ∙ r.0; buffer_after = l.1 ∙ r.1 }

pub returns-then-row-order : goal.returns-then-row-order
returns-then-row-order c =
    let a = c.args in
    let o = c.in_ok-order.order in
    let r = row_read a.order.now a.buffer.now a.row c.if-buffer-lt-ROW_BYTES.false o (sym c.read.ensures ∙ c.in_ok-order.was) in
    let m = room-there o a.row a.buffer.now (rw c.row_bytes-bytes.ensures at c.if-buffer-bytes.false) in
    let l = row_lacking o a.row a.buffer.now c.if-row-order.true in
    record { value = c.lacks_row.ensures ∙ l.0 ∙ m.0 ∙ r.0; buffer_after = l.1 ∙ m.1 ∙ r.1 }

pub returns-in_err-times : goal.returns-in_err-times
unfolding worked_call_of started_in
returns-in_err-times c =
    let a = c.args in
    let o = c.in_ok-order.order in
    let r = row_read a.order.now a.buffer.now a.row c.if-buffer-lt-ROW_BYTES.false o (sym c.read.ensures ∙ c.in_ok-order.was) in
    let m = room-there o a.row a.buffer.now (rw c.row_bytes-bytes.ensures at c.if-buffer-bytes.false) in
    let l = row_there o a.row a.buffer.now _ _ c.if-row-order.false c.row-date.ensures (ap (started_in _) c.since_midnight.ensures.0) in
    let w = c.in_err-times.was in
    let p = err_from_is_err_and c.from_residual-in_err-times.result c.from_residual-in_err-times.ensures.1 in
    record { value = rw (p.1, p.2) ((rw w at l.0) ∙ m.0 ∙ r.0); buffer_after = (rw w at l.1) ∙ m.1 ∙ r.1 }

pub returns : goal.returns
unfolding worked_call_of started_in NearIn
returns c =
    let a = c.args in
    let o = c.in_ok-order.order in
    let date = c.row-date.result in
    let times = c.in_ok-times.times in
    let room = rw c.row_bytes-bytes.ensures at c.if-buffer-bytes.false in
    let r = row_read a.order.now a.buffer.now a.row c.if-buffer-lt-ROW_BYTES.false o (sym c.read.ensures ∙ c.in_ok-order.was) in
    let m = room-there o a.row a.buffer.now room in
    let l = row_there o a.row a.buffer.now _ _ c.if-row-order.false c.row-date.ensures (ap (started_in _) c.since_midnight.ensures.0) in
    let w = c.in_ok-times.was in
    let imsak : o.ramadan.imsak < 2 ^ 32 = search rules in
    let year : date.year < 2 ^ 32 = search rules in
    let near = subst NearIn w c.since_midnight.ensures.1 in
    let t = started_of (start_of date) times in
    let n = columns_length o.ramadan date t in
    let p = put_next a.buffer.now [] (row_text date (columns_of o.ramadan t)) a.buffer.now _ 0 refl refl
    (c.put_row.ensures.buffer_after ∙ ap (put_of a.buffer.now 0) (sym (row-since date o.ramadan times imsak year near.fajr)))
    (omega (arith, room)) in
    record { value = (rw w at l.0) ∙ m.0 ∙ r.0; buffer_after = p ∙ (rw w at l.1) ∙ m.1 ∙ r.1 }
