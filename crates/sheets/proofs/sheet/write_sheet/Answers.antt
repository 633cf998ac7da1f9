-- A refused order and a read one, each by the law of every report. The town is read as a part of the order's bytes.
use Rattle.prelude.proofs.Logic.{◌≡◌, sym, ap, ◌∙◌, lit≤}
use Rattle.order.specs.Reading.{town_in, town_of}
use Rattle.order.proofs.AcceptedLaws.{read_accepted}
use Rattle.order.proofs.ReadingLaws.{read_town}
use Rattle.text.proofs.PrintedLaws.{printed-short}
use Rattle.reports.proofs.ReportsLaws.{report-read, report-refused}
use Rattle.sheets.proofs.sheet.write_sheet.Goals as goal

pub returns-then-buffer-lt-SHEET_BYTES : goal.returns-then-buffer-lt-SHEET_BYTES
returns-then-buffer-lt-SHEET_BYTES c =
    let both = printed-short _ _ _ c.if-buffer-lt-SHEET_BYTES.true in record { value = both.0; buffer_after = both.1 }

pub put_accepted-requires : goal.put_accepted-requires
unfolding town_of
put_accepted-requires c =
    let e = sym c.read-reading.ensures ∙ c.in-Ok.is in
    let named : c.town-name.result.now ≡ town_of c.args.order.now =
    c.town-name.ensures ∙ ap (town_in c.args.order.now) c.read-reading.ensures in
    (read_accepted _ _ e, rw named (read_town _ _ e).size.1, c.if-buffer-lt-SHEET_BYTES.false)

pub returns-in-Ok : goal.returns-in-Ok
unfolding town_of
returns-in-Ok c =
    let e = sym c.read-reading.ensures ∙ c.in-Ok.is in
    let named : c.town-name.result.now ≡ town_of c.args.order.now =
    c.town-name.ensures ∙ ap (town_in c.args.order.now) c.read-reading.ensures in
    let put = c.put_accepted.ensures in
    let both = report-read _ _ _ _ c.if-buffer-lt-SHEET_BYTES.false _ _ _ e
    (simp named at put.value, simp named at put.buffer_after) in
    record { value = both.0; buffer_after = both.1 }

pub returns-in-Err : goal.returns-in-Err
returns-in-Err c =
    let put = c.put_refused_order.ensures in
    let both = report-refused _ _ _ _ c.if-buffer-lt-SHEET_BYTES.false _ _ (lit≤ tt) _
    (sym c.read-reading.ensures ∙ c.in-Err.is)
    (put.value, put.buffer_after) in record { value = both.0; buffer_after = both.1 }
