-- A sheet that is written fits the buffer. Assumes nothing.
use Rattle.prelude.proofs.Logic.{◌≡◌, List, ℕ, ◌≤◌, arith, lit≤, length, length-append}
use Rattle.order.proofs.AcceptedLaws.{read_accepted}
use Rattle.order.proofs.ReadingLaws.{read_town}
use Rattle.order.specs.Reading.{town_of}
use Rattle.reports.proofs.ReportsLaws.{report-fits}
use Rattle.sheets.specs.Rows.{head_text, lines_text, accepted_text, longest_sheet, sheet_call_of}
use Rattle.sheets.proofs.Lengths.{room_enough, head_length, lines_length}

pub answer_fits : (s buffer after : List ℕ) (n : ℕ) → n ≡ (sheet_call_of s buffer).answer → length after ≡ length buffer → n ≤ length after
unfolding accepted_text
answer_fits s =
    report-fits (accepted_text (town_of s)) longest_sheet s
    (λ o e. let town = (read_town s o e).size.1 in
    let room = room_enough o (read_accepted s o e) in
    let h = head_length o.ramadan (town_of s) in
    let l = lines_length o o.rows in
    let n = length-append (head_text o.ramadan (town_of s)) (lines_text o o.rows) in
    omega arith) (lit≤ tt)
