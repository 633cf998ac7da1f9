-- The head and then the lines of all rows are the order's text.
use Rattle.prelude.proofs.Logic.{◌≡◌, arith, length}
use Rattle.sheets.proofs.Lengths.{room_enough, head_length, sheet_made}
use Rattle.sheets.proofs.sheet.put_accepted.Goals as goal

pub put_rows-requires : goal.put_rows-requires
put_rows-requires c =
    let a = c.args in
    let p = c.requires in
    let h = c.put_head-head in
    let n = h.ensures.value in
    let t = head_length a.order.ramadan a.town.now in
    let room = room_enough a.order p.0 in
    let k : length h.new.buffer ≡ length a.buffer.now = h.auto.buffer in
    (p.0, omega (arith, p.1, p.2))

pub returns : goal.returns
returns c =
    let a = c.args in
    let p = c.requires in
    let h = c.put_head-head.ensures in
    let r = c.put_rows.ensures in
    let room = room_enough a.order p.0 in
    let both = sheet_made a.town.now a.buffer.now _ _ a.order _ _ (omega (arith, p.1, p.2)) h.value h.buffer_after r.value r.buffer_after
    in record { value = both.0; buffer_after = both.1 }
